-- A loop that writes the lines of commands. Assumes nothing.
use Rattle.std.proofs.Common.{◌≡◌, ℕ, ◌+◌, ◌<◌, List, [], ◌∷◌, ◌++◌, length, map, drop, get_or, min, refl, sym, ap, ap₂, ◌∙◌, inl, inr, arith, append_assoc}
use Rattle.std.proofs.lemmas.Bool.{cases_lt}
use Rattle.std.proofs.lemmas.List.{append-nil, drop_all, drop_more}
use Rattle.script.specs.Scripts.{CommandValue}
use Rattle.vault_calls.specs.Calls.{Reply}
use Rattle.transcripts.specs.Lines.{command_line, command_lines}

no_replies : (commands : List CommandValue) → command_lines commands [] ≡ []
no_replies [] = refl
no_replies (c ∷ commands) = refl

module _ {C E : Type 0} (value : C → CommandValue) (came_to : E → Reply ℕ) (cs : List C) (es : List E) where
  -- the lines from place i on
  abbrev left : ℕ → List ℕ
  left i = command_lines (map value (drop i cs)) (map came_to (drop i es))

  -- all of them, behind what was written before
  abbrev whole : List ℕ → List ℕ
  whole before = before ++ command_lines (map value cs) (map came_to es)

  -- one line more: i of them were written, and then j
  pub turn : (i j : ℕ) (c : C) (e : E) (before out next : List ℕ) → j ≡ i + 1 → i < length cs → i < length es → c ≡ get_or cs i c → e ≡ get_or es i e
      → out ++ left i ≡ whole before → next ≡ out ++ command_line (value c) (came_to e) → next ++ left j ≡ whole before
  turn i j c e before out next is_j in_cs in_es is_c is_e so_far written =
      let cs_more : drop i cs ≡ c ∷ drop j cs = drop_more cs i c in_cs ∙ ap₂ (λ x k. x ∷ drop k cs) (sym is_c) (sym is_j) in
      let es_more : drop i es ≡ e ∷ drop j es = drop_more es i e in_es ∙ ap₂ (λ x k. x ∷ drop k es) (sym is_e) (sym is_j) in
      ap (λ bytes. bytes ++ left j) written
      ∙ append_assoc out (command_line (value c) (came_to e)) (left j)
      ∙ ap (λ bytes. out ++ bytes) (sym (ap₂ (λ xs ys. command_lines (map value xs) (map came_to ys)) cs_more es_more))
      ∙ so_far

  none_left : (i : ℕ) → i ≡ min (length cs) (length es) → left i ≡ []
  none_left i e = elim (cases_lt (length cs) (length es)) [
    | inl l ↦ ap (λ xs. command_lines (map value xs) (map came_to (drop i es))) (drop_all i cs (omega (arith, e, l)))
    | inr l ↦ ap (λ ys. command_lines (map value (drop i cs)) (map came_to ys)) (drop_all i es (omega (arith, e, l))) ∙ no_replies (map value (drop i cs))
  ]

  pub over : (i : ℕ) (before out : List ℕ) → i ≡ min (length cs) (length es) → out ++ left i ≡ whole before → out ≡ whole before
  over i before out e so_far = sym (append-nil out) ∙ ap (λ bytes. out ++ bytes) (sym (none_left i e)) ∙ so_far
