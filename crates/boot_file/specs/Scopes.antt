-- How the store is run: the key `stats_run`, which is this project's own. `scopes` has at most 64 objects with the
-- texts `label` and `prefix`. A label has 1 to 32 letters, digits and low lines; all are different and none is `root`,
-- and of two equal ones the later is wrong. A prefix has 0 to 255 printable bytes without spaces, of which one final
-- dot is dropped; absent is empty.
use Rattle.std.specs.Prelude.{ℕ, ◌+◌, ◌==◌, Bool, not, ◌&&◌, ◌++◌, nat_le, length, List, [], ◌∷◌, codes, Option, Some}
use Rattle.std.specs.Prelude.{None, Result, Ok, Err, if◌then◌else◌}
use Rattle.std.specs.List.{list_all, list_any}
use lib.Pointwise.{pointwise}
use Rattle.stat_defs.specs.declared.configs.ScopeSpec.{ScopeSpec}
use Rattle.stat_defs.specs.declared.configs.TheConstants.{MAX_FLUSHES, MAX_FLUSH_EVERY, MAX_SCOPES}
use Rattle.stat_defs.specs.declared.events.TheConstants.{MAX_LABEL_BYTES, MAX_NAME_BYTES}
use Rattle.stat_defs.specs.Names.{is_label_byte, is_name_byte, without_dot}
use Rattle.serde_json.specs.Data.{Items, no_items, item, Data, string}
use Rattle.boot_values.specs.declared.fault.BootFault.{BootFault}
use Rattle.boot_values.specs.declared.fault.BootFault.TheVariants.{BadKey}
use Rattle.boot_values.specs.declared.json.Limits.{Limits}
use Rattle.boot_values.specs.declared.place.Place.TheVariants.{Scope}
use Rattle.boot_file.specs.declared.run.Run.{Run}
use Rattle.boot_values.specs.Agrees.{and_then}
use Rattle.boot_values.specs.Paths.{path_of}
use Rattle.boot_values.specs.Values.{member, section_at, whole_at, items_at}

abbrev pub is_label : List ℕ → Bool
is_label text = nat_le 1 (length text) && (nat_le (length text) MAX_LABEL_BYTES && list_all is_label_byte text)

abbrev pub is_scope_prefix : List ℕ → Bool
is_scope_prefix text = nat_le (length text) MAX_NAME_BYTES && list_all is_name_byte text

abbrev pub is_taken : List ScopeSpec → List ℕ → Bool
is_taken found label = list_any (λ s. pointwise ◌==◌ s.label label) found

-- a label that no earlier scope has
abbrev pub label_at : List ScopeSpec → ℕ → Option Data → Result (List ℕ) BootFault
label_at found i None = Err (BadKey (path_of (Scope i) []))
label_at found i (Some (string text)) =
    if is_label text && not (is_taken found text) then Ok text else Err (BadKey (path_of (Scope i) (codes ".label")))
label_at found i (Some _) = Err (BadKey (path_of (Scope i) (codes ".label")))

abbrev pub prefix_at : ℕ → Option Data → Result (List ℕ) BootFault
prefix_at i None = Ok []
prefix_at i (Some (string text)) =
    if is_scope_prefix text then Ok (without_dot text) else Err (BadKey (path_of (Scope i) (codes ".prefix")))
prefix_at i (Some _) = Err (BadKey (path_of (Scope i) (codes ".prefix")))

unfoldable pub scope_at : List ScopeSpec → ℕ → Data → Result ScopeSpec BootFault
scope_at found i d =
    and_then (label_at found i (member (Some d) (codes "label"))) (λ label.
    and_then (prefix_at i (member (Some d) (codes "prefix"))) (λ prefix.
    Ok (record { label = label; prefix = prefix })))

-- the members from place i on, behind those that were found
abbrev pub scopes_from : ℕ → List ScopeSpec → Items → Result (List ScopeSpec) BootFault
scopes_from i found no_items = Ok found
scopes_from i found (item d ds) = and_then (scope_at found i d) (λ s. scopes_from (i + 1) (found ++ s ∷ []) ds)

abbrev pub root : ScopeSpec
root = record { label = codes "root"; prefix = [] }

-- `root` stands before the bootstrap's scopes
unfoldable pub scopes_of : Option Data → Result (List ScopeSpec) BootFault
scopes_of found = and_then (items_at (codes "stats_run.scopes") MAX_SCOPES found) (scopes_from 0 (root ∷ []))

abbrev pub to_64 : Limits
to_64 = record { least = 0; most = MAX_FLUSHES; absent = 0 }

abbrev pub pace : Limits
pace = record { least = 1; most = MAX_FLUSH_EVERY; absent = 1000 }

-- `stats_run`: its scopes, flushes, readings, and events between flushes
unfoldable pub run_of : Option Data → Result Run BootFault
run_of found =
    and_then (section_at (codes "stats_run") found) (λ section.
    and_then (scopes_of (member section (codes "scopes"))) (λ scopes.
    and_then (whole_at (codes "stats_run.flushes") to_64 (member section (codes "flushes"))) (λ flushes.
    and_then (whole_at (codes "stats_run.reads") to_64 (member section (codes "reads"))) (λ reads.
    and_then (whole_at (codes "stats_run.flush_every") pace (member section (codes "flush_every"))) (λ flush_every.
    Ok (record { scopes = scopes; flushes = flushes; reads = reads; flush_every = flush_every }))))))
