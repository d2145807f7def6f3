-- Words that are joined are the first of them, and a space before each of the others. Assumes nothing.
use Rattle.std.proofs.Common.{◌≡◌, ℕ, List, [], ◌∷◌, ◌++◌, map, ap, ◌∙◌, sym, append_assoc}
use Rattle.std.specs.Fmt.{decimal}
use Rattle.std.specs.List.{join_with_byte}
use Rattle.std.proofs.lemmas.List.{append-nil}
use Rattle.script.specs.Transcripts.{spaced}

joined : (word : List ℕ) (words : List (List ℕ)) → join_with_byte 32 (word ∷ words) ≡ word ++ spaced words
joined word [] = sym (append-nil word)
joined word (next ∷ words) = ap (λ t. word ++ 32 ∷ t) (joined next words)

-- a letter and numbers behind it are written
pub letter_joined : (out after all : List ℕ) (letter n : ℕ) (ns : List ℕ) → after ≡ out ++ letter ∷ [] → all ≡ after ++ spaced (map decimal (n ∷ ns)) → all ≡ out ++ join_with_byte 32 ((letter ∷ []) ∷ map decimal (n ∷ ns))
letter_joined out after all letter n ns p q =
    q ∙ ap (λ t. t ++ spaced (map decimal (n ∷ ns))) p ∙ append_assoc out (letter ∷ []) (spaced (map decimal (n ∷ ns)))
    ∙ ap (λ t. out ++ t) (sym (joined (letter ∷ []) (map decimal (n ∷ ns))))
