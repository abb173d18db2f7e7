use Rattle.std.proofs.Common.{Some, vec_items, subst}
use Rattle.text.specs.Seen.{unread}
use Rattle.session.specs.Whole.{until_opening, UpTo}
use Rattle.session.proofs.Inputs.{answered_open}
use Rattle.session.proofs.input.serve_all.Goals as goal

pub returns-in-Some : goal.returns-in-Some
returns-in-Some g c =
    let all = until_opening (unread c.args.talk.now.reader) in
    let left = unread c.answer_until_opening.new.talk.reader in
    let opened = vec_items c.answer_until_opening.new.talk.out in
    let up = subst (λ before. UpTo all (Some c.in-Some.opening) left before opened) c.requires c.in-Some.ensures in
    answered_open g.S.Store c.args.store all c.in-Some.opening left opened (vec_items c.serve_as.new.talk.out) c.serve_as.result up c.serve_as.ensures
