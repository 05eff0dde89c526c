-- The first file of a name.
use Rattle.std.proofs.Common.{◌≡◌, ◌<◌, ℕ, ◌+◌, Some, true, cond, List, length, drop, map, get_or, string_bytes, nat_eq, sym, ap, ◌∙◌, subst}
use Rattle.std.proofs.lemmas.List.{drop_more, get_or_read}
use Rattle.std.specs.Cmp.Lexicographic.{pointwise}
use Rattle.stats_io.specs.MemShelf.{file_named}
use Rattle.stats_io.specs.MemShelf.{mem_file, IsFirstNamed}
use Rattle.stats_io.specs.declared.file.MemFile.{MemFile}

pub found_here : (files : List MemFile) (place : ℕ) (name : List ℕ) (f : MemFile) → place < length files → f ≡ get_or files place f
    → pointwise nat_eq (string_bytes f.name) name ≡ true → file_named (map mem_file (drop place files)) name ≡ file_named (map mem_file files) name → IsFirstNamed files place name
found_here files place name f lt is same here = record {
  within = lt;
  first = λ d.
      let g = get_or files place d in
      let named : pointwise nat_eq (string_bytes g.name) name ≡ true = subst (λ (x : MemFile). pointwise nat_eq (string_bytes x.name) name ≡ true) (get_or_read files place f lt is d) same in
      sym here ∙ ap (λ xs. file_named (map mem_file xs) name) (drop_more files place d lt)
      ∙ ap (λ b. cond b (Some (mem_file g)) (file_named (map mem_file (drop (place + 1) files)) name)) named;
}
