-- What a shelf answers to a call, and what it means afterwards. Assumes nothing.
use Rattle.std.specs.Prelude.{List, [], ◌∷◌}
use Rattle.shelf.specs.declared.calls.Answer.{Answer}
use Rattle.shelf.specs.declared.calls.Answer.TheVariants.{Size, Told, Symbol}
use Rattle.shelf.specs.declared.calls.Call.{Call}
use Rattle.shelf.specs.declared.calls.Call.TheVariants.{AskSizes, Stands, Fetch, Store, Withdraw, Insert}
use Rattle.shelf.specs.Meaning.{Meaning, box_count, has_row, is_out, is_standing, symbol_at, with_out, with_standing, with_symbol}

-- what a shelf that means m answers
abbrev pub answer_to : {T : Type 0} → Meaning T → Call T → Answer T
answer_to m AskSizes = Size (record { boxes = box_count m; rows = m.rows })
answer_to m (Stands b) = Told (is_standing m b)
answer_to m (Fetch b a) = Symbol (symbol_at m b a)
answer_to m (Store b a x) = Told (has_row m b a)
answer_to m (Withdraw b) = Told (is_standing m b)
answer_to m (Insert b x) = Told (is_out m b)

-- and what it means then
abbrev pub after : {T : Type 0} → Meaning T → Call T → Meaning T
after m AskSizes = m
after m (Stands b) = m
after m (Fetch b a) = m
after m (Store b a x) = with_symbol m b a x
after m (Withdraw b) = with_out m b
after m (Insert b x) = with_standing m b x

-- the same after calls one after another
abbrev pub after_all : {T : Type 0} → Meaning T → List (Call T) → Meaning T
after_all m [] = m
after_all m (call ∷ calls) = after_all (after m call) calls
