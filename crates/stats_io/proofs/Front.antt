-- Pieces that are written one after another.
use Rattle.std.proofs.Common.{◌≡◌, ◌+◌, ℕ, min, Option, List, ◌++◌, length, take, sym, ◌∙◌, subst, arith}
use Rattle.std.proofs.lemmas.List.{take-append-le, take_min, take_all}
use Rattle.std.proofs.Math.Seq.{take-append-add}
use Rattle.std.specs.Io.KnownBytes.{Appends}
use Rattle.std.proofs.KnownBytes.{Appends-trans}
use Rattle.stat_defs.specs.Faults.{Rose}
use Rattle.stats_io.specs.States.{SinkState}
use Rattle.stats_io.specs.Push.{AppendsFront, WritesWhole, WritesFront}

-- a front of the first piece is a front of both
pub front_first : (x y : Option (List ℕ)) (a b : List ℕ) → AppendsFront x y a → AppendsFront x y (a ++ b)
front_first x y a b f =
    let e : take (min f.0 (length a)) (a ++ b) ≡ take f.0 a =
    take-append-le (min f.0 (length a)) a b (omega arith) ∙ take_min f.0 a in
    (min f.0 (length a), subst (λ (l : List ℕ). Appends x y l) (sym e) f.1)

-- the first piece is a front of both
pub front_whole : (x y : Option (List ℕ)) (a b : List ℕ) → Appends x y a → AppendsFront x y (a ++ b)
front_whole x y a b p =
    front_first x y a b (length a, subst (λ (l : List ℕ). Appends x y l) (sym (take_all (length a) a (omega arith))) p)

-- the first piece, and a front of the second
pub front_next : (x y z : Option (List ℕ)) (a b : List ℕ) → Appends x y a → AppendsFront y z b → AppendsFront x z (a ++ b)
front_next x y z a b p f = (
  length a + f.0,
  subst (λ (l : List ℕ). Appends x z l) (sym (take-append-add a b f.0)) (Appends-trans x y z a (take f.0 b) p f.1),
)

-- a push of the first piece failed
pub cut_first : (x y : SinkState) (a b : List ℕ) → WritesFront x y a → WritesFront x y (a ++ b)
cut_first x y a b cut = record { front = front_first x.written y.written a b cut.front; rose = cut.rose }

-- the first piece was written, and a push of the second failed
pub cut_next : (x y z : SinkState) (a b : List ℕ) → WritesWhole x y a → WritesFront y z b → WritesFront x z (a ++ b)
cut_next x y z a b whole cut = record {
  front = front_next x.written y.written z.written a b whole.appended cut.front;
  rose = subst (λ (n : ℕ). Rose n z.faults) whole.count cut.rose;
}

-- both pieces were written
pub whole_next : (x y z : SinkState) (a b : List ℕ) → WritesWhole x y a → WritesWhole y z b → WritesWhole x z (a ++ b)
whole_next x y z a b first next = record {
  appended = Appends-trans x.written y.written z.written a b first.appended next.appended;
  count = next.count ∙ first.count;
}
