-- What `map_vec` says, as a fact of each job and its result.
use Rattle.std.proofs.Common.{◌≡◌, ℕ, suc, ◌<◌, List, [], ◌∷◌, length, sym, subst, arith}
use Rattle.std.specs.Prelude.{slice_index_or}
use Rattle.std.specs.List.{AllZip}
use Rattle.std.specs.Fn.{FnReturns}
use Rattle.std.specs.Fork.{GivesJob, GivesJobs}
use denote.Param.Members.{Shared}

module _ {F J R : Type 0} (g : Shared F (J × Unit {0}) R) (f : F) (P : J → R → Type 0)
    (says : (j : J) (r : R) → FnReturns g f (j, tt) r → P j r) where
  by_places : (js : List J) (rs : List R) → length rs ≡ length js
      → ((i : ℕ) (d : R) → i < length js → GivesJob g f js i (slice_index_or rs i d)) → AllZip P js rs
  by_places [] [] len each = tt
  by_places [] (r ∷ rs) len each = absurd (omega (arith, len))
  by_places (j ∷ js) [] len each = absurd (omega (arith, len))
  by_places (j ∷ js) (r ∷ rs) len each =
      let first = each 0 r (omega arith) in (
        subst (λ (x : J). P x r) (sym (first.job_is j)) (says first.job r first.call),
        by_places js rs (omega (arith, len))
            (λ i d h. let k = each (suc i) d (omega (arith, h)) in record {
              job = k.job;
              job_read = k.job_read;
              job_is = k.job_is;
              call = k.call;
            }),
      )

  -- each job was done by a call
  pub jobs_done : (js : List J) (rs : List R) → length rs ≡ length js → GivesJobs g f js rs → AllZip P js rs
  jobs_done js rs len each = by_places js rs len (λ i d h. (each i d h).1)
