use Rattle.std.proofs.Common.{vec_items, sym, ◌∙◌, subst}
use Rattle.text.specs.Seen.{unread}
use Rattle.session.specs.Saying.{written}
use Rattle.session.specs.Whole.{until_opening, UpTo}
use Rattle.session.proofs.Turns.{behind}
use Rattle.session.proofs.Closed.{Sofar, so_far_more, opened_here}
use Rattle.session.proofs.opening.answer_until_opening.Goals as goal

pub returns-then-is_some : goal.returns-then-is_some
returns-then-is_some c =
    let all = unread c.args.talk.now.reader in
    let left = unread c.next_item.new.self.reader in
    let heard = c.answer_closed-answer in
    let before = vec_items c.args.talk.now.out in
    let so_far = vec_items c.loop-item.talk.out in
    let now_out = vec_items c.write.new.self.out in
    let grown = behind so_far (written heard.result.0) _ now_out c.write.ensures.items c.next_item.ensures.items in
    subst (λ ls. UpTo (until_opening all) heard.result.1 ls before now_out) (sym c.write.ensures.left)
    (opened_here all (unread c.loop-item.talk.reader) left c.in-Some.item heard.result.0 heard.result.1 before so_far now_out c.in-Some.ensures.takes heard.ensures.heard (sym c.is_some.ensures ∙ c.if-is_some.true) grown c.loop-item.invariant)

pub loop-item-preserved : goal.loop-item-preserved
loop-item-preserved c =
    let all = unread c.args.talk.now.reader in
    let left = unread c.next_item.new.self.reader in
    let heard = c.answer_closed-answer in
    let before = vec_items c.args.talk.now.out in
    let so_far = vec_items c.loop-item.talk.out in
    let now_out = vec_items c.write.new.self.out in
    let grown = behind so_far (written heard.result.0) _ now_out c.write.ensures.items c.next_item.ensures.items in
    subst (λ ls. Sofar all ls before now_out) (sym c.write.ensures.left)
    (so_far_more all (unread c.loop-item.talk.reader) left c.in-Some.item heard.result.0 heard.result.1 before so_far now_out c.in-Some.ensures.takes heard.ensures.heard (sym c.is_some.ensures ∙ c.if-is_some.false) grown c.loop-item.invariant)
