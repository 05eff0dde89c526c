-- What the loading of a bootstrap answers, and what it leaves. This project's own.
use Rattle.std.specs.Prelude.{◌≡◌, ◌≢◌, ◌<◌, ◌≤◌, ◌+◌, ◌⊎◌, ℕ, Option, Result, Ok, Err, List, length, codes}
use Rattle.std.specs.Io.KnownBytes.{Consumes}
use Rattle.stat_defs.specs.Faults.{Rose}
use Rattle.stat_defs.specs.declared.configs.Config.{Config}
use Rattle.boot_values.specs.declared.fault.BootFault.{BootFault}
use Rattle.boot_values.specs.declared.fault.BootFault.TheVariants as wrong
use Rattle.boot_file.specs.Boot.{boot}
use Rattle.tag_rules.specs.Making.{Memory, after_making}
use Rattle.stats_io.specs.States.{SourceState, ShelfState}
use Rattle.stats_io.specs.Open.{IsUnopened}
use Rattle.stats_io.specs.Told.{MayBe}
use Rattle.stats_io.specs.declared.pulling.TheConstants.{PULL_BYTES}
use Rattle.boot_load.specs.Asked.{asked, texts_of}
use Rattle.boot_load.specs.Build.{IsPatternRefused, RefusesNone}
use Rattle.boot_load.specs.declared.loading.Boot.{Boot}
use Rattle.boot_load.specs.declared.fault.LoadFault.{LoadFault}
use Rattle.boot_load.specs.declared.fault.LoadFault.TheVariants.{TooBig, Faulty, BadPattern, OpenFailed}
use Rattle.boot_load.specs.declared.fault.LoadFault.TheVariants.{ReadFailed, NoMemory}
use Rattle.boot_load.specs.declared.reading.TheConstants.{MAX_BOOT_BYTES}

-- these are the bytes of the bootstrap: `-` stands for `{}`, and a file has these where its content is told
abbrev pub IsBoot : Option (List ℕ) → List ℕ → List ℕ → Type 0
IsBoot content name bytes = ((name ≡ codes "-") × (bytes ≡ codes "{}")) ⊎ ((name ≢ codes "-") × MayBe content bytes)

module _ {S : Type 0} (source : S → SourceState) (content : Option (List ℕ)) (name : List ℕ) where
  -- A source that was opened under that name gave these bytes, in this later state of it: the next ones of what the file
  -- holds, where that is told, and no more than the limit and one pull.
  pub record IsRead (bytes : List ℕ) : Type 0 where
    pub later : S
    pub origin : (source later).origin ≡ name
    pub consumed : Consumes content (source later).left bytes
    pub few : length bytes ≤ MAX_BOOT_BYTES + PULL_BYTES

  -- the bytes of the bootstrap, within the limit: a file was read to its end, and no further
  pub record IsShortBoot (bytes : List ℕ) : Type 0 where
    pub bytes_are : IsBoot content name bytes
    pub short : length bytes ≤ MAX_BOOT_BYTES
    pub read : name ≢ codes "-" → IsRead bytes

  -- the bootstrap says this configuration
  pub record IsConfigured (config : Config) : Type 0 where
    pub bytes : List ℕ
    pub is_boot : IsShortBoot bytes
    pub says : boot bytes ≡ Ok config

  -- this is its first fault
  pub record IsFaulty (fault : BootFault) : Type 0 where
    pub bytes : List ℕ
    pub is_boot : IsShortBoot bytes
    pub says : boot bytes ≡ Err fault
    pub no_want : fault ≢ wrong.NoMemory

  -- the bootstrap is too long: its file gave more bytes than the limit
  pub record IsTooBig : Type 0 where
    pub file : name ≢ codes "-"
    pub given : List ℕ
    pub read : IsRead given
    pub long : MAX_BOOT_BYTES < length given

  -- a pull of a source that was opened under that name failed behind these bytes, and this is the source's count of
  -- faults
  pub record IsSourceFault (count : ℕ) : Type 0 where
    pub file : name ≢ codes "-"
    pub given : List ℕ
    pub read : IsRead given
    pub counted : (source read.later).faults ≡ count
    pub rose : Rose 0 count

module _ {S : Type 0} (source : S → SourceState) (content : Option (List ℕ)) (name : List ℕ)
    (before after : ShelfState) where
  -- why no configuration was read
  abbrev pub IsUnread : LoadFault → Type 0
  IsUnread TooBig = IsTooBig source content name × (after ≡ before)
  IsUnread (Faulty fault) = IsFaulty source content name fault × (after ≡ before)
  IsUnread OpenFailed = (name ≢ codes "-") × IsUnopened name before after
  IsUnread (ReadFailed count) = IsSourceFault source content name count × (after ≡ before)
  IsUnread NoMemory = Unit {0}
  IsUnread (BadPattern path) = ⊥

  module _ (old new : Memory) where
    -- the configuration that the bootstrap says, with its patterns, which were all made in their order
    pub record IsLoaded (loaded : Boot) : Type 0 where
      pub config : IsConfigured source content name loaded.config
      pub rules : loaded.rules ≡ loaded.config.tags
      pub matcher : loaded.matcher ≡ loaded.config.matcher
      pub buckets : loaded.buckets ≡ loaded.config.buckets
      pub view_rules : loaded.view_rules ≡ loaded.config.tags
      pub made : new ≡ after_making (texts_of (asked loaded.config)) old
      pub shelf : after ≡ before

    -- the bootstrap says a configuration, of which the pattern at that path was refused
    pub record HasBadPattern (path : List ℕ) : Type 0 where
      pub config : Config
      pub configured : IsConfigured source content name config
      pub refused : IsPatternRefused (asked config) path old new
      pub shelf : after ≡ before

    abbrev pub Loads : Result Boot LoadFault → Type 0
    Loads (Ok loaded) = IsLoaded loaded
    Loads (Err (BadPattern path)) = HasBadPattern path
    Loads (Err NoMemory) = RefusesNone old new
    Loads (Err TooBig) = IsUnread TooBig × (new ≡ old)
    Loads (Err (Faulty fault)) = IsUnread (Faulty fault) × (new ≡ old)
    Loads (Err OpenFailed) = IsUnread OpenFailed × (new ≡ old)
    Loads (Err (ReadFailed count)) = IsUnread (ReadFailed count) × (new ≡ old)
