use Rattle.std.proofs.Common.{◌≡◌, ◌*◌, ◌/◌, length, ap, ap₂, ◌∙◌, arith}
use Rattle.joined.specs.Joining.{joined}
use Rattle.transcripts.proofs.Shelves.{joined_for, thirds}
use Rattle.transcripts.proofs.runs.run_joined.Goals as goal

pub run-requires-clause-shelf : goal.run-requires-clause-shelf
run-requires-clause-shelf c =
    let y = c.new-lengths.result in
    let data_room : length c.deref_mut.result.now ≡ y.data_boxes * y.rows = ap length c.deref_mut.ensures.value ∙ c.in_ok-symbols.ensures.long in
    let parity_room = thirds y.parities y.rows (length c.deref_mut-2.result.now) (c.deref_mut-2.ensures.len ∙ c.in_ok-bytes.ensures.len) in
    joined_for c.args.script.now.m y.m y.data_boxes y.parities y.rows y.pairs c.new-lengths.ensures y.lengths _ (length c.deref_mut.result.now) (length c.deref_mut-2.result.now / 3) (omega (arith, data_room)) parity_room (c.new.ensures.holds ∙ ap₂ joined c.new-data.ensures.meaning c.new-parities.ensures.meaning)
