use Rattle.std.proofs.Common.{[], Option, map, unwrap_or, ℕ, List, Bor, ap, ◌∙◌, codes}
use Rattle.clap.specs.Words.{found_of}
use Rattle.command_words.proofs.Found.{all_found}
use Rattle.command_words.proofs.sorting.operands_in.Goals as goal

pub returns-in_ok-to_vec-in-Some : goal.returns-in_ok-to_vec-in-Some
returns-in_ok-to_vec-in-Some c =
    ap (λ (l : List (Bor (List ℕ))). map (λ w. w.now) l) (c.in_ok-to_vec-in-Some.ensures.items_if_clones_equal (λ x y e. e))
    ∙ ap (λ (o : Option (List (List ℕ))). unwrap_or o []) (c.in-Some.ensures ∙ all_found (found_of c.args.matches.now) (codes "operands"))

pub returns-in-None : goal.returns-in-None
returns-in-None c =
    ap (λ (l : List (Bor (List ℕ))). map (λ w. w.now) l) c.new.ensures.items
    ∙ ap (λ (o : Option (List (List ℕ))). unwrap_or o []) (c.in-None.ensures ∙ all_found (found_of c.args.matches.now) (codes "operands"))
