-- A put that there is room for makes the root of the joined tree; one that there is no room for is refused.
use Rattle.std.proofs.Common.{◌≡◌, ◌+◌, max, length, ap, arith, rules}
use Rattle.tree.proofs.Keeping.{accepted, refused, height_fits}
use Rattle.tree.proofs.Joining.{join_made}
use Rattle.tree.proofs.Makings.{grew_put}
use Rattle.tree.proofs.put_over.Goals as goal

pub returns-in_err-number : goal.returns-in_err-number
returns-in_err-number g c =
    record {
      grew = search rules;
      joined = λ l r s room.
          let none = accepted (g.S.Store.meaning c.args.store.now) 1 room in
          refused c.in_err-number.field-0.0 (length (g.S.Store.meaning c.args.store.now).cells + 1) (rw none at c.in_err-number.ensures.answer);
    }

pub returns : goal.returns
returns g c =
    record {
      grew = grew_put g.S.Store c.args.store.now c.put.new.self _ c.in_ok-number.number c.in_ok-number.ensures.answer c.put.ensures.after;
      joined = λ l r s room.
          let m = g.S.Store.meaning c.args.store.now in
          let none = accepted m 1 room in
          let bounded = g.met.S.Store.bounded c.args.store.now in
          let hl = height_fits g.E.Effect g.T.Time m l 4294967295 s.left_kept bounded room in
          let hr = height_fits g.E.Effect g.T.Time m r 4294967295 s.right_kept bounded room in
          let il = ap (λ x. x.height) s.left_is in
          let ir = ap (λ x. x.height) s.right_is in
          let tall : c.args.height ≡ max c.args.parts.left.height c.args.parts.right.height + 1 = c.requires.over (omega arith) in
          let after = simp (none, tall, c.requires.composed, c.to_word.ensures, c.to_words.ensures, c.to_words-2.ensures) at c.put.ensures.after in
          let answer = rw none at c.in_ok-number.ensures.answer in
          let number : c.in_ok-number.number ≡ length m.cells + 1 = cc in
          join_made g.E.Effect g.T.Time _ _ c.args.parts.left c.args.parts.right l r c.args.parts.op _ s after (simp (number, tall, c.requires.composed));
    }
