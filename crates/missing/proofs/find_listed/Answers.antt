use Rattle.std.proofs.Common.{arith}
use Rattle.missing.specs.Missing.{stands}
use Rattle.missing.proofs.Counts.{three_out, none_count, one_count, two_count, few_out, are_many}
use Rattle.missing.proofs.find_listed.Goals as goal

pub returns-in_default-clause-answer : goal.returns-in_default-clause-answer
returns-in_default-clause-answer c = let out = c.args.out.now in few_out c.args.n out (omega (arith, none_count (stands out) c.args.n c.in_default.ensures))

pub returns-in_default-lowest_out-clause-answer : goal.returns-in_default-lowest_out-clause-answer
returns-in_default-lowest_out-clause-answer c =
    let out = c.args.out.now in few_out c.args.n out (omega (arith, one_count (stands out) c.args.n c.in-Some.x c.in-Some.ensures c.in_default-lowest_out.ensures))

pub returns-in-None-clause-answer : goal.returns-in-None-clause-answer
returns-in-None-clause-answer c =
    let out = c.args.out.now in few_out c.args.n out (omega (arith, two_count (stands out) c.args.n c.in-Some.x c.in-Some-lowest_out.y c.in-Some.ensures c.in-Some-lowest_out.ensures c.in-None.ensures))

pub returns-in-Some-lowest_out-2-clause-answer : goal.returns-in-Some-lowest_out-2-clause-answer
returns-in-Some-lowest_out-2-clause-answer c =
    let out = c.args.out.now in are_many c.args.n out (three_out (stands out) c.args.n c.in-Some.x c.in-Some-lowest_out.y c.in-Some-lowest_out-2.field-0 c.in-Some.ensures c.in-Some-lowest_out.ensures c.in-Some-lowest_out-2.ensures)
