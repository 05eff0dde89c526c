-- Files of a shelf whose names hold the same.
use Rattle.std.proofs.Common.{◌≡◌, ℕ, Option, List, [], ◌∷◌, map, refl, subst}
use Rattle.stats_io.specs.States.{SourceState, ShelfState}
use Rattle.event_script.specs.FileEvents.{AreEventsOf}
use Rattle.file_reading.specs.WorkerEnd.{HasCause}
use Rattle.file_reading.specs.FileRead.{FileRead, IsFile, AreFiles}

pub same_contents : (one other : List ℕ → Option (List ℕ)) → ((name : List ℕ) → one name ≡ other name)
    → (names : List (List ℕ)) → map one names ≡ map other names
same_contents one other same [] = refl
same_contents one other same (n ∷ ns) = λ i. same n i ∷ same_contents one other same ns i

module _ {F S : Type 0} (shelf : F → ShelfState) (source : S → SourceState) where
  -- a file is the same where what its name holds is the same
  pub file_alike : (one other : List ℕ → Option (List ℕ)) (name : List ℕ) (before after : F) (file : FileRead) → one name ≡ other name
      → IsFile shelf source one name before after file → IsFile shelf source other name before after file
  file_alike one other name before after file same is = record {
    run = subst (λ (c : Option (List ℕ)). AreEventsOf c file.end.end file.end.taken file.events) same is.run;
    cause = subst (λ (c : Option (List ℕ)). HasCause source c name (shelf before) (shelf after) file.end file.end.end) same is.cause;
  }

  -- files are the same where what their names hold is the same
  pub files_alike : (one other : List ℕ → Option (List ℕ)) → ((name : List ℕ) → one name ≡ other name) → (names : List (List ℕ)) (before after : F)
      (files : List FileRead) → AreFiles shelf source one names before after files → AreFiles shelf source other names before after files
  files_alike one other same [] before after [] are = are
  files_alike one other same [] before after (f ∷ fs) are = absurd are
  files_alike one other same (n ∷ ns) before after [] are = absurd are
  files_alike one other same (n ∷ ns) before after (f ∷ fs) are =
      (are.0, (file_alike one other n before are.0 f (same n) are.1.0, files_alike one other same ns are.0 after fs are.1.1))
