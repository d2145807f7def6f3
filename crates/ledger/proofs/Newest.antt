-- What the newest entry says, and what came after the last of some kind, with one more entry. Assumes nothing.
use Rattle.std.proofs.Common.{◌≡◌, ◌+◌, ◌-◌, Bool, true, false, not, List, [], ◌∷◌, ◌++◌, length, drop, reverse, Option, Some, None, refl, sym, ap, ◌∙◌, arith}
use Rattle.std.specs.List.{after_last, prefix_len, suffix_len}
use Rattle.std.specs.Option.{option_or}
use Rattle.std.proofs.lemmas.Bool.{cond-false, cond-true, not_from_false, not_from_true}
use Rattle.std.proofs.lemmas.List.{drop_all, drop-append-le, length_push, reverse-append}
use Rattle.ledger.specs.Histories.{newest}

module _ {X : Type 0} where
  or_none : (o : Option X) → option_or o None ≡ o
  or_none None = refl
  or_none (Some x) = refl

  or_assoc : (o p q : Option X) → option_or (option_or o p) q ≡ option_or o (option_or p q)
  or_assoc None p q = refl
  or_assoc (Some x) p q = refl

  pub newest_more : {E : Type 0} (says : E → Option X) (h : List E) (e : E) → newest says (h ++ e ∷ []) ≡ option_or (says e) (newest says h)
  newest_more says [] e = sym (or_none (says e))
  newest_more says (x ∷ h) e = ap (λ o. option_or o (says x)) (newest_more says h e) ∙ or_assoc (says e) (newest says h) (says x)

module _ {E : Type 0} (p : E → Bool) (h : List E) (e : E) where
  abbrev passes : E → Bool
  passes x = not (p x)

  turned : suffix_len passes (h ++ e ∷ []) ≡ prefix_len passes (e ∷ reverse h)
  turned = ap (prefix_len passes) (reverse-append h (e ∷ []))

  pub after_last_here : p e ≡ true → after_last p (h ++ e ∷ []) ≡ []
  after_last_here t =
      let n : suffix_len passes (h ++ e ∷ []) ≡ 0 = turned ∙ cond-false (passes e) _ 0 (not_from_true (p e) t) in
      drop_all (length (h ++ e ∷ []) - suffix_len passes (h ++ e ∷ [])) (h ++ e ∷ []) (omega arith)

  pub after_last_more : p e ≡ false → after_last p (h ++ e ∷ []) ≡ after_last p h ++ e ∷ []
  after_last_more f =
      let n : suffix_len passes (h ++ e ∷ []) ≡ 1 + suffix_len passes h = turned ∙ cond-true (passes e) _ 0 (not_from_false (p e) f) in
      ap (λ k. drop k (h ++ e ∷ [])) (let k : length (h ++ e ∷ []) - suffix_len passes (h ++ e ∷ []) ≡ length h - suffix_len passes h = omega (arith, length_push h e) in k)
      ∙ drop-append-le (length h - suffix_len passes h) h (e ∷ []) (omega arith)
