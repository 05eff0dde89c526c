-- What the building of patterns answers, with each told by its path. This project's own.
use Rattle.std.specs.Prelude.{◌≡◌, ℕ, List, ◌∷◌, ◌++◌, Some, Result, Ok, Err, slice_get}
use Rattle.stat_defs.specs.declared.configs.Config.{Config}
use Rattle.tag_rules.specs.Making.{Memory, Refuses, after_making}
use Rattle.tag_rules.specs.declared.fault.TagFault.{TagFault}
use Rattle.tag_rules.specs.declared.fault.TagFault.TheVariants as tag
use Rattle.boot_load.specs.Asked.{Asked, texts_of}
use Rattle.boot_load.specs.declared.loading.Boot.{Boot}
use Rattle.boot_load.specs.declared.fault.LoadFault.{LoadFault}
use Rattle.boot_load.specs.declared.fault.LoadFault.TheVariants.{TooBig, Faulty, BadPattern, OpenFailed}
use Rattle.boot_load.specs.declared.fault.LoadFault.TheVariants.{ReadFailed, NoMemory}

-- the patterns before one of these were made, and its text was refused
pub record IsPatternRefused (all : List Asked) (path : List ℕ) (old new : Memory) : Type 0 where
  pub done : List Asked
  pub text : List ℕ
  pub rest : List Asked
  pub order : all ≡ done ++ (record { path = path; text = text }) ∷ rest
  pub made : new.made ≡ old.made ++ texts_of done
  pub refused : Refuses text old new

-- no text was refused
pub record RefusesNone (old new : Memory) : Type 0 where
  pub count : new.count ≡ old.count
  pub last : new.last ≡ old.last

-- the patterns of all these are not built, for the first that is refused or for want of memory
abbrev pub FailsToBuild : List Asked → Memory → Memory → LoadFault → Type 0
FailsToBuild all old new (BadPattern path) = IsPatternRefused all path old new
FailsToBuild all old new NoMemory = RefusesNone old new
FailsToBuild all old new TooBig = ⊥
FailsToBuild all old new (Faulty fault) = ⊥
FailsToBuild all old new OpenFailed = ⊥
FailsToBuild all old new (ReadFailed count) = ⊥

-- the patterns of all these are made in order, up to the first that is refused; what was built is seen as the setting
abbrev pub BuildsAll : {A : Type 0} → List Asked → A → Memory → Memory → Result A LoadFault → Type 0
BuildsAll all setting old new (Ok built) = (built ≡ setting) × (new ≡ after_making (texts_of all) old)
BuildsAll all setting old new (Err fault) = FailsToBuild all old new fault

-- the bad pattern's member has a path
abbrev pub HasPathIn : List (List ℕ) → TagFault → Type 0
HasPathIn paths (tag.BadPattern i) = (path : List ℕ) × (slice_get paths i ≡ Some path)
HasPathIn paths tag.NoMemory = Unit {0}

-- a bad pattern is told by the path of its member
abbrev pub IsTold : List (List ℕ) → TagFault → LoadFault → Type 0
IsTold paths (tag.BadPattern i) told = (path : List ℕ) × (slice_get paths i ≡ Some path) × (told ≡ BadPattern path)
IsTold paths tag.NoMemory told = told ≡ NoMemory

-- the configuration with its patterns
abbrev pub boot_with : Config → Boot
boot_with config = record {
  config = config;
  rules = config.tags;
  matcher = config.matcher;
  buckets = config.buckets;
  view_rules = config.tags;
}
