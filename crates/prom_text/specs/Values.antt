-- How a reader of the text gets the value of a label back (the Prometheus exposition format), and of which bytes the
-- text is made (this project's own).
use Rattle.std.specs.Prelude.{ℕ, Bool, true, false, ◌==◌, ◌||◌, if◌then◌else◌, List, [], ◌∷◌}
use Rattle.std.specs.List.{list_any}
use Rattle.stat_defs.specs.Names.{is_printable_byte}
use Rattle.stat_defs.specs.declared.views.FlushView.{FlushView}
use Rattle.prom_text.specs.Members.{members, tagged_of}

-- a value that was read, and what follows its closing quotation mark
pub record ValueRead : Type 0 where
  pub value : List ℕ
  pub rest : List ℕ

abbrev pub read_more : ℕ → ValueRead → ValueRead
read_more b read = record { value = b ∷ read.value; rest = read.rest }

-- a value from behind its opening quotation mark; a backslash before a byte says that it belongs to the value, and
-- before an `n` that it is a newline; any other quotation mark ends the value
abbrev pub read_value : Bool → List ℕ → ValueRead
read_value behind_backslash [] = record { value = []; rest = [] }
read_value true (b ∷ bs) = read_more (if b == 110 then 10 else b) (read_value false bs)
read_value false (b ∷ bs) =
    if b == 34 then (record { value = []; rest = bs })
    else if b == 92 then read_value true bs
    else read_more b (read_value false bs)

-- a newline, a space or another printable byte
abbrev pub is_text_byte : ℕ → Bool
is_text_byte b = b == 10 || is_printable_byte b

-- a byte of the value of some tag of a member
abbrev pub is_value_byte : FlushView → ℕ → Bool
is_value_byte view b =
    list_any (λ member. list_any (λ tag. list_any (λ c. c == b) tag.value) (tagged_of member).tags)
    (members view)
