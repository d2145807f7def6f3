use Rattle.std.proofs.Common.{◌≡◌, ◌*◌, length, sym, ap, ◌∙◌, arith}
use Rattle.transcripts.proofs.Shelves.{flat_for}
use Rattle.transcripts.proofs.runs.run_flat.Goals as goal

pub run-requires-clause-shelf : goal.run-requires-clause-shelf
run-requires-clause-shelf g c =
    let y = c.new-lengths.result in
    let room : length c.deref_mut.result.now ≡ c.boxes-2.result * y.rows =
    c.deref_mut.ensures.len ∙ c.in_ok-buffer.ensures.len ∙ ap (λ n. n * y.rows) (c.boxes.ensures.boxes ∙ sym c.boxes-2.ensures.boxes) in
    flat_for c.args.script.now.m y.m y.data_boxes y.parities y.rows y.pairs c.new-lengths.ensures y.lengths _ c.boxes-2.result (length c.deref_mut.result.now) c.boxes-2.ensures.boxes c.boxes-2.ensures.few (omega (arith, room)) c.new.ensures.meaning
