use Rattle.std.proofs.Common.{◌≡◌, ◌+◌, ◌-◌, ◌*◌, ◌^◌, length, [], ◌∷◌, Some, refl, sym, ap, ◌∙◌, rules}
use Rattle.code.specs.Contents.{at}
use Rattle.columns.proofs.Names.{given_by}
use Rattle.refusal.specs.Refusals.{earliest, refusal, wrong_lengths}
use Rattle.gathering.specs.Gatherings.{reasons}
use Rattle.gathering.proofs.Files.{renewed}
use Rattle.gathering.proofs.Reasons.{earliest_some, none_missing, last_lengths}
use Rattle.gathering.proofs.Turns.{missing_by, close_reasons}
use Rattle.gathering.proofs.states.Gathering.finish.Goals as goal

pub returns-in_err-hear_all-clause-answer : goal.returns-in_err-hear_all-clause-answer
returns-in_err-hear_all-clause-answer g c =
    let lost = c.args.self.lost in
    let why = c.in_err-hear_all.field-0.0 in
    let passed_on : refusal c.from_residual.result ≡ Some why = search rules in
    passed_on ∙ sym (earliest_some (reasons lost.cabinet.size.m lost.number (length c.args.store.now) [] c.args.messages.now) _ why (sym c.in_err-hear_all.ensures.answer))

pub returns-in_err-complete-clause-answer : goal.returns-in_err-complete-clause-answer
returns-in_err-complete-clause-answer g c =
    let m = c.args.self.lost.cabinet.size.m in
    let stored = length c.args.store.now in
    let heard = c.in_ok-hear_all.ensures in
    let last = wrong_lengths ((stored, (3 * m + 1) * 2 ^ (m - 1)) ∷ (length c.args.column.now, 2 ^ m) ∷ []) in
    let passed_on : refusal c.from_residual-in_err-complete.result ≡ Some c.in_err-complete.field-0.0.why = search rules in
    passed_on
    ∙ ap (λ r. earliest (r ∷ last ∷ [])) c.in_err-complete.ensures.answer
    ∙ close_reasons _ _ _ _ (ap (λ l. l.cabinet.size.m) heard.lost) (ap (λ l. l.number) heard.lost) c.args.messages.now c.hear_all.new.self.heard c.args.self.lost.cabinet.size.most heard.heard last stored heard.answer

pub returns-in_err-column-clause-answer : goal.returns-in_err-column-clause-answer
returns-in_err-column-clause-answer g c =
    let m = c.args.self.lost.cabinet.size.m in
    let stored = length c.args.store.now in
    let heard = c.in_ok-hear_all.ensures in
    let last = wrong_lengths ((stored, (3 * m + 1) * 2 ^ (m - 1)) ∷ (length c.args.column.now, 2 ^ m) ∷ []) in
    let passed_on : refusal c.from_residual-in_err-column.result ≡ Some c.in_err-column.field-0.0.why = search rules in
    passed_on ∙ c.in_err-column.ensures.answer
    ∙ last_lengths _ m _ stored (length c.args.column.now) (ap (λ l. l.cabinet.size.m) (ap (λ k. k.lost) c.in_ok-complete.ensures.kept ∙ heard.lost)) c.hear_all.auto.store
    ∙ ap (λ r. earliest (r ∷ last ∷ [])) c.in_ok-complete.ensures.answer
    ∙ close_reasons _ _ _ _ (ap (λ l. l.cabinet.size.m) heard.lost) (ap (λ l. l.number) heard.lost) c.args.messages.now c.hear_all.new.self.heard c.args.self.lost.cabinet.size.most heard.heard last stored heard.answer

pub returns-clause-answer : goal.returns-clause-answer
returns-clause-answer g c =
    let m = c.args.self.lost.cabinet.size.m in
    let stored = length c.args.store.now in
    let heard = c.in_ok-hear_all.ensures in
    let last = wrong_lengths ((stored, (3 * m + 1) * 2 ^ (m - 1)) ∷ (length c.args.column.now, 2 ^ m) ∷ []) in
    c.in_ok-column.ensures.answer
    ∙ last_lengths _ m _ stored (length c.args.column.now) (ap (λ l. l.cabinet.size.m) (ap (λ k. k.lost) c.in_ok-complete.ensures.kept ∙ heard.lost)) c.hear_all.auto.store
    ∙ ap (λ r. earliest (r ∷ last ∷ [])) c.in_ok-complete.ensures.answer
    ∙ close_reasons _ _ _ _ (ap (λ l. l.cabinet.size.m) heard.lost) (ap (λ l. l.number) heard.lost) c.args.messages.now c.hear_all.new.self.heard c.args.self.lost.cabinet.size.most heard.heard last stored heard.answer

pub returns-clause-column : goal.returns-clause-column
returns-clause-column g c =
    let Y = g.F.Sums.symbols in
    let v = g.F.Sums.value in
    let lost = c.args.self.lost in
    let heard = c.in_ok-hear_all.ensures in
    let same = ap (λ k. k.lost) c.in_ok-complete.ensures.kept ∙ heard.lost in
    renewed Y v lost.cabinet.size.m lost.number lost.first lost.data c.args.messages.now c.hear_all.new.store heard.placed
    (sym (missing_by _ _ _ _ (ap (λ l. l.cabinet.size.m) heard.lost) (ap (λ l. l.number) heard.lost) c.args.messages.now c.hear_all.new.self.heard lost.cabinet.size.most heard.heard)
    ∙ none_missing _ c.in_ok-complete.ensures.answer) c.column.new.into
    (given_by Y v (at Y v c.column.new.into) _ _ _ _ _ _ (ap (λ l. l.cabinet.size.m) same) (ap (λ l. l.number - 1) same) refl c.in_ok-column.ensures.column)
