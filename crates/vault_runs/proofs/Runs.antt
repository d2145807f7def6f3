-- Runs of calls, one call more at the end. Assumes nothing.
use Rattle.std.proofs.Common.{◌≡◌, ℕ, ◌+◌, ◌<◌, List, [], ◌∷◌, ◌++◌, Option, get_or, slice_set, take, drop, length, map, sym, ap, ◌∙◌, subst, refl, arith}
use Rattle.std.proofs.lemmas.List.{drop-set-lt, drop_more, length-set, map-append, take_more, take_more_set}
use Rattle.field.specs.Symbols.{Symbols}
use Rattle.shelf.specs.Meaning.{Meaning}
use Rattle.ledger.specs.declared.calls.Call.{Call}
use Rattle.vault_calls.specs.Calls.{Does, Reply}
use Rattle.vault_laws.specs.Runs.{Run}
use Rattle.vault_runs.specs.Entries.{asked, bare, calls, replies, reply}
use Rattle.vault_runs.specs.declared.Entry.{Entry}

module _ (Y : Symbols) {T : Type 0} (value : T → Y.Symbol) where
  pub run_more : (cs : List (Call T (List T))) (rs : List (Reply T)) (size size1 size2 : Option ℕ) (s s1 s2 : Meaning T) (call : Call T (List T)) (r : Reply T)
      → Run Y value cs rs size s size1 s1 → Does Y value size1 s1 call r size2 s2 → Run Y value (cs ++ call ∷ []) (rs ++ r ∷ []) size s size2 s2
  run_more [] [] size size1 size2 s s1 s2 call r run does =
      record { next_size = size2; next_shelf = s2; does = subst (λ k. Does Y value size k call r size2 s2) run.1 (subst (λ k. Does Y value k s1 call r size2 s2) run.0 does); rest = (refl, refl) }
  run_more (c ∷ cs) (q ∷ rs) size size1 size2 s s1 s2 call r run does =
      record { next_size = run.next_size; next_shelf = run.next_shelf; does = run.does; rest = run_more cs rs run.next_size size1 size2 run.next_shelf s1 s2 call r run.rest does }
  run_more [] (q ∷ rs) size size1 size2 s s1 s2 call r run does = absurd run
  run_more (c ∷ cs) [] size size1 size2 s s1 s2 call r run does = absurd run

  -- one turn of a loop over entries: entry i is made, and is e1 then
  module _ (size size1 size2 : Option ℕ) (s s1 s2 : Meaning T) (old now : List (Entry T)) (i : ℕ) (d e1 : Entry T) (inside : i < length old) (long : length now ≡ length old) (later : drop i now ≡ drop i old) where
    abbrev e : Entry T
    e = get_or now i d

    abbrev now1 : List (Entry T)
    now1 = slice_set now i e1

    within : i < length now
    within = omega (arith, long)

    heads : e ∷ drop (i + 1) now ≡ get_or old i d ∷ drop (i + 1) old
    heads = sym (drop_more now i d within) ∙ later ∙ drop_more old i d inside

    was : get_or old i d ≡ e
    was = let h = heads in cc

    calls_more : calls (take (i + 1) old) ≡ calls (take i old) ++ asked e.call ∷ []
    calls_more = ap calls (take_more old i d inside) ∙ map-append _ (take i old) (get_or old i d ∷ []) ∙ ap (λ x. calls (take i old) ++ asked x.call ∷ []) was

    taken : take (i + 1) now1 ≡ take i now ++ e1 ∷ []
    taken = take_more_set now i e1 within

    pub turn : Run Y value (calls (take i old)) (replies (take i now)) size s size1 s1 → map bare (calls (take i now)) ≡ map bare (calls (take i old))
        → Does Y value size1 s1 (asked e.call) (reply e1) size2 s2 → bare (asked e1.call) ≡ bare (asked e.call)
        → Run Y value (calls (take (i + 1) old)) (replies (take (i + 1) now1)) size s size2 s2
        × (map bare (calls (take (i + 1) now1)) ≡ map bare (calls (take (i + 1) old)))
        × (drop (i + 1) now1 ≡ drop (i + 1) old)
        × (length now1 ≡ length old)
    turn run same does stays = (
      subst (λ cs. Run Y value cs (replies (take (i + 1) now1)) size s size2 s2) (sym calls_more)
          (subst (λ rs. Run Y value (calls (take i old) ++ asked e.call ∷ []) rs size s size2 s2) (sym (ap replies taken ∙ map-append _ (take i now) (e1 ∷ [])))
          (run_more _ _ size size1 size2 s s1 s2 _ _ run does)),
      ap (λ es. map bare (calls es)) taken ∙ ap (map bare) (map-append _ (take i now) (e1 ∷ [])) ∙ map-append bare (calls (take i now)) (asked e1.call ∷ [])
          ∙ (λ j. same j ++ stays j ∷ [])
          ∙ sym (ap (map bare) calls_more ∙ map-append bare (calls (take i old)) (asked e.call ∷ [])),
      drop-set-lt (i + 1) now i e1 (omega arith) ∙ (let h = heads in cc),
      length-set now i e1 ∙ long,
    )
