-- Calls over the field of five, each beside what it comes to: five boxes of two rows, so that m is 1. Assumes nothing.
use Rattle.std.specs.Prelude.{◌≡◌, ℕ, List, [], ◌∷◌, map, replicate, Result, Ok, Err}
use Rattle.std.proofs.Common.{lit<}
use Rattle.field.specs.Below.{Below}
use Rattle.field.specs.Numbers.{residue}
use Rattle.refusal.specs.declared.Refusal.{Refusal}
use Rattle.refusal.specs.declared.Refusal.TheVariants.{NotSetUp, Size, Marks, Shape, Length, NoBox, NoRow, Out, Standing, ManyOut, NotRenewable, Helper}
use Rattle.prime.specs.Five.{five_symbols}
use Rattle.ledger.specs.Calls.{call_map}
use Rattle.ledger.specs.Ledgers.{fresh, replies}
use Rattle.ledger.specs.declared.calls.Answer.{Answer}
use Rattle.ledger.specs.declared.calls.Answer.TheVariants.{Done, Count}
use Rattle.ledger.specs.declared.calls.Call.{Call}
use Rattle.ledger.specs.declared.calls.Call.TheVariants.{SetUp, Put, Amend, Read, Column, Message, Lose, Renew, Rebuild}

abbrev pub five : ℕ → Below 5
five = residue 5 (lit< tt)

-- what a call comes to: its answer, and its buffer afterwards
abbrev pub Reply : Type 0
Reply = Result Answer Refusal × List ℕ

-- symbols go in and out by their numbers
abbrev pub run : List (Call ℕ (List ℕ)) → List Reply
run calls =
    map (λ r. (r.answer, map five_symbols.number r.buffer)) (replies five_symbols (fresh five_symbols 5 2) (map (call_map five (map five)) calls))

-- a buffer for n symbols, before it is written
abbrev pub blank : ℕ → List ℕ
blank n = replicate n 4

-- boxes (1,2), (3,4) and (0,1), and the same with box 1, row 1 amended to 0
abbrev pub small : List ℕ
small = 1 ∷ 2 ∷ 3 ∷ 4 ∷ 0 ∷ 1 ∷ []

abbrev pub amended : List ℕ
amended = 1 ∷ 0 ∷ 3 ∷ 4 ∷ 0 ∷ 1 ∷ []

abbrev pub worked : List (Call ℕ (List ℕ) × Reply)
worked =
    (Read (blank 6), (Err NotSetUp, blank 6))
    ∷ (SetUp 0, (Err Size, []))
    ∷ (SetUp 2, (Err Shape, []))
    ∷ (SetUp 3, (Err Marks, []))
    ∷ (SetUp 1, (Ok Done, []))
    ∷ (Read (blank 6), (Ok Done, replicate 6 0))
    ∷ (Put small, (Ok Done, small))
    ∷ (Lose 1, (Ok Done, []))
    ∷ (Lose 1, (Err Out, []))
    ∷ (Column 1 (blank 2), (Err Out, blank 2))
    ∷ (Lose 2, (Ok Done, []))
    ∷ (SetUp 2, (Err Shape, []))
    ∷ (Read (blank 6), (Ok Done, small))
    ∷ (Renew 1 (blank 6), (Err NotRenewable, blank 6))
    ∷ (Rebuild (blank 6), (Ok (Count 2), small))
    ∷ (Column 1 (blank 2), (Ok Done, 1 ∷ 2 ∷ []))
    ∷ (Column 4 (blank 2), (Ok Done, 4 ∷ 2 ∷ []))
    ∷ (Column 5 (blank 2), (Ok Done, 2 ∷ 1 ∷ []))
    ∷ (Column 6 (blank 2), (Err NoBox, blank 2))
    ∷ (Message 2 1 (blank 1), (Ok Done, 3 ∷ []))
    ∷ (Message 3 1 (blank 1), (Ok Done, 0 ∷ []))
    ∷ (Message 4 1 (blank 1), (Ok Done, 4 ∷ []))
    ∷ (Message 5 1 (blank 1), (Ok Done, 2 ∷ []))
    ∷ (Message 1 1 (blank 1), (Err Helper, blank 1))
    ∷ (Message 1 4 (blank 1), (Err NotRenewable, blank 1))
    ∷ (Message 2 1 (blank 2), (Err Length, blank 2))
    ∷ (Renew 1 (blank 6), (Err Standing, blank 6))
    ∷ (Lose 1, (Ok Done, []))
    ∷ (Renew 1 (blank 6), (Ok (Count 4), 3 ∷ 0 ∷ 4 ∷ 2 ∷ 4 ∷ 4 ∷ []))
    ∷ (Lose 1, (Ok Done, []))
    ∷ (Amend 1 1 0 (blank 6), (Ok Done, amended))
    ∷ (Amend 1 2 0 (blank 6), (Err NoRow, blank 6))
    ∷ (Amend 4 1 0 (blank 6), (Err NoBox, blank 6))
    ∷ (Column 4 (blank 2), (Ok Done, 4 ∷ 0 ∷ []))
    ∷ (Column 5 (blank 2), (Ok Done, 1 ∷ 4 ∷ []))
    ∷ (Lose 4, (Ok Done, []))
    ∷ (Renew 4 (blank 6), (Err NotRenewable, blank 6))
    ∷ (Lose 5, (Ok Done, []))
    ∷ (Read (blank 6), (Err ManyOut, blank 6))
    ∷ (Column 3 (blank 2), (Ok Done, 0 ∷ 1 ∷ []))
    ∷ (SetUp 1, (Ok Done, []))
    ∷ (Rebuild (blank 6), (Ok (Count 0), replicate 6 0))
    ∷ []

-- a ledger that is fed with these calls, one after another, replies so
abbrev pub Answers : List (Call ℕ (List ℕ) × Reply) → Type 0
Answers steps = run (map (λ p. p.0) steps) ≡ map (λ p. p.1) steps
