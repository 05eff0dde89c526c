-- What is answered of bytes that are too many or faulty, and of a configuration whose patterns were built.
use Rattle.std.proofs.Common.{ℕ, ◌≡◌, ◌≢◌, ◌≤◌, ◌+◌, max, List, [], ◌++◌, Option, Result, Ok, Err, ◌⊎◌, inl, inr, length, codes, ap, sym, subst, ◌∙◌, refl, arith}
use Rattle.tag_rules.specs.Making.{Memory}
use Rattle.boot_file.specs.Boot.{boot}
use Rattle.boot_values.specs.declared.fault.BootFault.{BootFault}
use Rattle.boot_values.specs.declared.fault.BootFault.TheVariants as wrong
use Rattle.boot_load.specs.declared.fault.LoadFault.{LoadFault}
use Rattle.boot_load.specs.declared.fault.LoadFault.TheVariants as load
use Rattle.stat_defs.specs.Faults.{Rose}
use Rattle.stats_io.specs.States.{SourceState, ShelfState, IsLater}
use Rattle.stats_io.specs.Open.{IsUnpulled}
use Rattle.stats_io.specs.PullUpTo.{Grows}
use Rattle.stats_io.specs.declared.pulling.TheConstants.{PULL_BYTES}
use Rattle.stats_io.proofs.Pieces.{kept_consumes}
use Rattle.stat_defs.specs.declared.configs.Config.{Config}
use Rattle.boot_load.specs.Asked.{asked}
use Rattle.boot_load.specs.Build.{BuildsAll, boot_with}
use Rattle.boot_load.specs.declared.loading.Boot.{Boot}
use Rattle.boot_load.specs.Load.{IsRead, IsSourceFault, IsShortBoot, IsConfigured, IsUnread, Loads}
use Rattle.boot_load.specs.declared.reading.TheConstants.{MAX_BOOT_BYTES}

-- a source that was pulled behind its opening
module _ {S : Type 0} (source : S → SourceState) (content : Option (List ℕ)) (name : List ℕ) (opened after : S) (old bytes : List ℕ)
    (empty : old ≡ []) (new : IsUnpulled content name (source opened)) (later : IsLater (source opened) (source after))
    (grows : Grows (source opened) (source after) old bytes)
    (few : length bytes ≤ max (length old) (MAX_BOOT_BYTES + PULL_BYTES)) where
  pub read_of : IsRead source content name bytes
  read_of = record {
    later = after;
    origin = later.origin ∙ new.origin;
    consumed = kept_consumes content (source opened).left (source after).left bytes new.left
        (rw (grows.appended ∙ ap (λ l. l ++ grows.got) empty) (grows.consumed));
    few = omega (arith, few, ap length empty);
  }

  -- it came to a fault, and counts this number
  pub failed : name ≢ codes "-" → (count : ℕ) → count ≡ (source after).faults
      → Rose (source opened).faults (source after).faults → IsSourceFault source content name count
  unfolding read_of
  failed file count counted rose = record {
    file = file;
    given = bytes;
    read = read_of;
    counted = sym counted;
    rose = subst (λ n. Rose n count) new.no_faults (subst (λ n. Rose (source opened).faults n) (sym counted) rose);
  }

module _ {S : Type 0} (source : S → SourceState) (content : Option (List ℕ)) (name : List ℕ) (before after : ShelfState) where
  -- the bytes that were read say no configuration
  pub unread : (bytes : List ℕ) (fault : BootFault) (told : LoadFault) → (fault ≢ wrong.NoMemory → boot bytes ≡ Err fault)
      → ((fault ≡ wrong.NoMemory) × (told ≡ load.NoMemory)) ⊎ ((fault ≢ wrong.NoMemory) × (told ≡ load.Faulty fault))
      → IsShortBoot source content name bytes → after ≡ before → IsUnread source content name before after told
  unread bytes fault told says (inl want) is_boot same = rw (want.1) tt
  unread bytes fault told says (inr is) is_boot same =
      rw (is.1) (record { bytes = bytes; is_boot = is_boot; says = says is.0; no_want = is.0 }, same)

  module _ (old new : Memory) where
    -- nothing was built
    pub not_read : (fault : LoadFault) → IsUnread source content name before after fault → new ≡ old
        → Loads source content name before after old new (Err fault)
    not_read load.TooBig is same = (is, same)
    not_read (load.Faulty fault) is same = (is, same)
    not_read load.OpenFailed is same = (is, same)
    not_read (load.ReadFailed count) is same = (is, same)
    not_read load.NoMemory is same = record { count = ap (λ (m : Memory). m.count) same; last = ap (λ (m : Memory). m.last) same }
    not_read (load.BadPattern path) is same = absurd is

    -- the configuration was read, and its patterns were built up to the first that was refused
    pub loaded : (config : Config) (result : Result Boot LoadFault) → IsConfigured source content name config → after ≡ before
        → BuildsAll (asked config) (boot_with config) old new result → Loads source content name before after old new result
    loaded config (Ok boot_made) configured same built = rw (built.0) (record {
      config = configured;
      rules = refl;
      matcher = refl;
      buckets = refl;
      view_rules = refl;
      made = built.1;
      shelf = same;
    })
    loaded config (Err (load.BadPattern path)) configured same built =
        record { config = config; configured = configured; refused = built; shelf = same }
    loaded config (Err load.NoMemory) configured same built = built
    loaded config (Err load.TooBig) configured same built = absurd built
    loaded config (Err (load.Faulty fault)) configured same built = absurd built
    loaded config (Err load.OpenFailed) configured same built = absurd built
    loaded config (Err (load.ReadFailed count)) configured same built = absurd built
