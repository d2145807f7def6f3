-- The worked calls and their replies, in symbols of the field. Assumes nothing.
use Rattle.std.proofs.Common.{◌≡◌, ℕ, zero, suc, List, [], ◌∷◌, map, take, refl, sym, ap, ap₂, ◌∙◌}
use Rattle.std.proofs.lemmas.List.{take-map}
use Rattle.field.specs.Below.{Below, same_below}
use Rattle.field.specs.Numbers.{residue}
use Rattle.prime.specs.Five.{above_one, five_number, five_symbols}
use Rattle.prime.specs.declared.five.Five.{Five}
use Rattle.prime.specs.declared.five.Five.TheVariants.{Zero, One, Two, Three, Four}
use Rattle.ledger.specs.Calls.{call_map}
use Rattle.ledger.specs.Ledgers.{LedgerCall, Ledger, fresh, step}
use Rattle.ledger.specs.Ledgers.{replies as ledger_replies}
use Rattle.ledger.specs.declared.calls.Call.{Call}
use Rattle.ledger.specs.declared.calls.Call.TheVariants.{SetUp, Put, Amend, Read, Column, Message, Lose, Renew, Rebuild}
use Rattle.ledger_cases.specs.Worked.{Answers, five, run, worked}
use Rattle.vault_laws.specs.Agreement.{told_call}
use Rattle.run_cases.specs.Numbers.{in_numbers}

-- the symbol that a value of the program stands for
abbrev pub value : Five → Below 5
value x = residue 5 above_one (five_number x)

pub value_is : (x : Five) → value x ≡ five (five_number x)
value_is x = same_below _ _ refl

values_are : (xs : List Five) → map value xs ≡ map five (map five_number xs)
values_are [] = refl
values_are (x ∷ xs) = ap₂ (λ y ys. y ∷ ys) (value_is x) (values_are xs)

pub number_is : (x : Five) → five_symbols.number (value x) ≡ five_number x
number_is Zero = refl
number_is One = refl
number_is Two = refl
number_is Three = refl
number_is Four = refl

pub numbers_are : (xs : List Five) → map five_symbols.number (map value xs) ≡ map five_number xs
numbers_are [] = refl
numbers_are (x ∷ xs) = ap₂ (λ n ns. n ∷ ns) (number_is x) (numbers_are xs)

call_is : (call : Call Five (List Five)) → told_call five_symbols value call ≡ call_map five (map five) (in_numbers call)
call_is (SetUp m) = refl
call_is (Put file) = ap Put (values_are file)
call_is (Amend b a x work) = ap₂ (Amend b a) (value_is x) (values_are work)
call_is (Read into) = ap Read (values_are into)
call_is (Column b into) = ap (Column b) (values_are into)
call_is (Message helper lost into) = ap (Message helper lost) (values_are into)
call_is (Lose b) = refl
call_is (Renew b work) = ap (Renew b) (values_are work)
call_is (Rebuild work) = ap Rebuild (values_are work)

pub calls_are : (calls : List (Call Five (List Five))) → map (told_call five_symbols value) calls ≡ map (call_map five (map five)) (map in_numbers calls)
calls_are [] = refl
calls_are (call ∷ calls) = ap₂ (λ c cs. c ∷ cs) (call_is call) (calls_are calls)

-- the first calls get the first replies
replies_take : (l : Ledger five_symbols) (n : ℕ) (calls : List (LedgerCall five_symbols)) → ledger_replies five_symbols l (take n calls) ≡ take n (ledger_replies five_symbols l calls)
replies_take l zero calls = refl
replies_take l (suc n) [] = refl
replies_take l (suc n) (call ∷ calls) = ap (λ rs. (step five_symbols l call).reply ∷ rs) (replies_take (step five_symbols l call).next n calls)

run_take : (n : ℕ) (calls : List (Call ℕ (List ℕ))) → run (take n calls) ≡ take n (run calls)
run_take n calls =
    let told : List (LedgerCall five_symbols) = map (call_map five (map five)) calls in
    ap (λ cs. map (λ r. (r.answer, map five_symbols.number r.buffer)) (ledger_replies five_symbols (fresh five_symbols 5 2) cs)) (sym (take-map _ n calls))
    ∙ ap (map (λ r. (r.answer, map five_symbols.number r.buffer))) (replies_take (fresh five_symbols 5 2) n told)
    ∙ sym (take-map _ n _)

pub worked_so_far : (n : ℕ) → Answers worked → run (map (λ p. p.0) (take n worked)) ≡ map (λ p. p.1) (take n worked)
worked_so_far n all = ap run (sym (take-map _ n worked)) ∙ run_take n (map (λ p. p.0) worked) ∙ ap (take n) all ∙ take-map _ n worked
