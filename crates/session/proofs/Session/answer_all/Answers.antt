use Rattle.std.proofs.Common.{length, vec_items, sym, ap, subst, arith}
use Rattle.text.specs.Seen.{unread}
use Rattle.ledger.specs.Shown.{shown}
use Rattle.session.specs.Saying.{written}
use Rattle.session.proofs.Turns.{took, none_left, behind, Onward, onward_end, onward_more}
use Rattle.session.proofs.Session.answer_all.Goals as goal

pub loop-item-preserved : goal.loop-item-preserved
loop-item-preserved g c =
    let all = unread c.args.talk.now.reader in
    let left = unread c.next_item.new.self.reader in
    let before = vec_items c.args.talk.now.out in
    let so_far = vec_items c.loop-item.talk.out in
    let now_out = vec_items c.write.new.self.out in
    let v = shown g.E.Effect g.T.Time g.S.Store c.args.self.now.ledger in
    let w = shown g.E.Effect g.T.Time g.S.Store c.answer.new.self.ledger in
    let grown = behind so_far (written c.answer.result) _ now_out c.write.ensures.items c.next_item.ensures.items in
    let onward =
    subst (λ ls. Onward g.E.Payload g.E.Effect g.T.Time all ls before now_out v w) (sym c.write.ensures.left)
    (onward_more g.E.Payload g.E.Effect g.T.Time g.S.Store all (unread c.loop-item.talk.reader) left c.in-Some.item c.answer.result before so_far now_out v c.loop-item.self.ledger c.answer.new.self.ledger c.in-Some.ensures.takes c.answer.ensures.hears grown c.loop-item.invariant.0)
    in
    (onward, λ stands. c.answer.ensures.stands (c.loop-item.invariant.1 stands))

pub loop-item-smaller : goal.loop-item-smaller
loop-item-smaller g c =
    let left = unread c.next_item.new.self.reader in
    let found = took (unread c.loop-item.talk.reader) c.in-Some.item left c.in-Some.ensures.takes in
    omega (arith, ap length found.1, ap length c.write.ensures.left)

pub returns-clause-served : goal.returns-clause-served
returns-clause-served g c =
    let left = unread c.loop-item.talk.reader in
    let told = c.in_default.ensures in
    onward_end g.E.Payload g.E.Effect g.T.Time (unread c.args.talk.now.reader) left (vec_items c.args.talk.now.out) (vec_items c.loop-item.talk.out) (vec_items c.next_item.new.self.out) (shown g.E.Effect g.T.Time g.S.Store c.args.self.now.ledger) (shown g.E.Effect g.T.Time g.S.Store c.loop-item.self.ledger) (none_left left (unread c.next_item.new.self.reader) told.takes) told.items c.loop-item.invariant.0
