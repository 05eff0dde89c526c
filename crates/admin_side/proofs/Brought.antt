-- What a reading of the changes brings to the names that a reader knows.
use Rattle.std.proofs.Common.{◌≡◌, ℕ, ◌*◌, List, [], ◌++◌, length, drop, ap, sym, ◌∙◌, subst}
use Rattle.stat_defs.specs.declared.history.NameOp.{NameOp}
use Rattle.stat_defs.specs.Changes.{GoesOnLater}
use Rattle.book_lock.specs.declared.view.LockPart.{LockPart}
use Rattle.book_lock.specs.Naming.{words_of}
use Rattle.book_lock.specs.History.{Reads, Tells, told, read_all}
use Rattle.book_lock.proofs.Standing.{later-then}
use Rattle.admin_side.specs.Looking.{BringsUp, Looks}
use Rattle.admin_side.proofs.Following.{goes-past}

-- the seat knows the changes whose number it loaded
pub names-read : (from n : ℕ) (before after : List NameOp) (p q : LockPart) → (r : Reads from n before after p q) → q.names ≡ r.names
names-read from n before after p q r = ap (λ (z : LockPart). z.names) r.part

-- one load, and no word of a change
pub looked : (names : List NameOp) (p q : LockPart) → Tells p names → q ≡ told names p → Looks p q
looked names p q tells part = let is : q.names ≡ names = ap (λ (z : LockPart). z.names) part in record {
  tells = subst (Tells p) (sym is) tells;
  place = 0;
  words = [];
  part = part ∙ ap (λ (l : List NameOp). told l p) (sym is);
}

pub looks-read : (from n : ℕ) (before after : List NameOp) (p q : LockPart) → Reads from n before after p q → Looks p q
looks-read from n before after p q r = let is = names-read from n before after p q r in record {
  tells = subst (Tells p) (sym is) r.tells;
  place = 2 * from;
  words = words_of (drop from r.names);
  part = r.part ∙ ap (λ (l : List NameOp). read_all (2 * from) (words_of (drop from r.names)) (told l p)) (sym is);
}

-- with the new ones behind those that were known, all are known
pub all-read : (known fresh : List NameOp) (from n : ℕ) (before after : List NameOp) (p q : LockPart) → GoesOnLater known p.names → from ≡ length known → before ≡ [] → fresh ≡ after
    → Reads from n before after p q → known ++ fresh ≡ q.names
all-read known fresh from n before after p q had count none same r =
    ap (λ (l : List NameOp). known ++ l) (same ∙ (r.appended ∙ (ap (λ (l : List NameOp). l ++ drop from r.names) none ∙ ap (λ k. drop k r.names) count)))
    ∙ (sym (goes-past known r.names (later-then known p.names r.names had r.tells.known)) ∙ sym (names-read from n before after p q r))

pub brings-up : (known : List NameOp) (from n : ℕ) (before after : List NameOp) (p q : LockPart) → from ≡ length known → Reads from n before after p q → BringsUp known p q
brings-up known from n before after p q count r = let is = names-read from n before after p q r in record {
  tells = subst (Tells p) (sym is) r.tells;
  part = r.part ∙ ap (λ k. read_all (2 * k) (words_of (drop k r.names)) (told r.names p)) count
      ∙ ap (λ (l : List NameOp). read_all (2 * length known) (words_of (drop (length known) l)) (told l p)) (sym is);
}
