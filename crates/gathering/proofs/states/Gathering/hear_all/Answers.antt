use Rattle.std.proofs.Common.{◌≡◌, ◌-◌, ◌^◌, sym, ap, ◌∙◌, subst, refl, arith, rules, [], Some}
use Rattle.refusal.specs.Refusals.{earliest, refusal}
use Rattle.gathering.specs.Gatherings.{place, with_half}
use Rattle.gathering.proofs.Turns.{at_first, by_flags, turn_at, stopped_at, Midway}
use Rattle.gathering.proofs.states.Gathering.hear_all.Goals as goal

pub loop-message-init : goal.loop-message-init
loop-message-init g c =
    let lost = c.args.self.now.lost in
    (refl, subst (λ flags. Midway lost.cabinet.size.m lost.number c.args.messages.now c.args.store.now [] c.args.messages.now flags c.args.store.now) (sym c.requires) (at_first lost.cabinet.size.m lost.number c.args.messages.now c.args.store.now))

pub loop-message-preserved : goal.loop-message-preserved
loop-message-preserved g c =
    let lost = c.args.self.now.lost in
    let now = c.loop-message in
    let msg = c.message-item.result in
    let same = now.invariant.0 in (
      c.hear.ensures.lost ∙ same,
      turn_at lost.cabinet.size.m lost.number c.args.messages.now c.args.store.now now.message-index msg now.self.heard now.store lost.cabinet.size.most lost.first lost.data (omega arith) c.message-item.is now.invariant.1 c.hear.new.self.heard c.hear.new.store
          (sym (ap (λ l. earliest (by_flags l.cabinet.size.m l.number now.self.heard now.store msg)) same) ∙ sym c.in_ok-hear.ensures.answer)
          c.in_ok-hear.ensures.heard
          (c.in_ok-hear.ensures.store ∙ ap (λ l. with_half (2 ^ (l.cabinet.size.m - 1)) (place l.cabinet.size.m l.number msg) msg.half.now now.store) same),
    )

pub returns-in_err-hear-clause-answer : goal.returns-in_err-hear-clause-answer
returns-in_err-hear-clause-answer g c =
    let lost = c.args.self.now.lost in
    let now = c.loop-message in
    let msg = c.message-item.result in
    let why = c.in_err-hear.field-0.0 in
    let passed_on : refusal c.from_residual.result ≡ Some why = search rules in
    passed_on
    ∙ sym (stopped_at lost.cabinet.size.m lost.number c.args.messages.now c.args.store.now now.message-index msg now.self.heard now.store lost.cabinet.size.most lost.first lost.data (omega arith) c.message-item.is now.invariant.1 why
    (sym (ap (λ l. earliest (by_flags l.cabinet.size.m l.number now.self.heard now.store msg)) now.invariant.0) ∙ sym c.in_err-hear.ensures.answer)).0

pub returns-in_err-hear-clause-store : goal.returns-in_err-hear-clause-store
returns-in_err-hear-clause-store g c =
    let lost = c.args.self.now.lost in
    let now = c.loop-message in
    let msg = c.message-item.result in
    let why = c.in_err-hear.field-0.0 in
    c.in_err-hear.ensures.store
    ∙ sym (stopped_at lost.cabinet.size.m lost.number c.args.messages.now c.args.store.now now.message-index msg now.self.heard now.store lost.cabinet.size.most lost.first lost.data (omega arith) c.message-item.is now.invariant.1 why
    (sym (ap (λ l. earliest (by_flags l.cabinet.size.m l.number now.self.heard now.store msg)) now.invariant.0) ∙ sym c.in_err-hear.ensures.answer)).1
