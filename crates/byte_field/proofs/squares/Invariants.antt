use Rattle.std.proofs.Common.{◌≡◌, ◌-◌}
use Rattle.byte_field.specs.Product.{squares}
use Rattle.byte_field.proofs.squares.Given as goal

-- what the turns left make of the two is what all make of a and 1
abbrev pub invariant-loop : goal.invariant-loop
invariant-loop l = squares (l.count - l.counter) l.square l.found ≡ squares l.count l.a 1
