-- The lines up to an opening: what those that are left give, all give behind what was written so far.
use Rattle.std.proofs.Common.{◌≡◌, ℕ, true, false, List, ◌++◌, is_some, Some, None, Option, sym, ap, ◌∙◌, append_assoc, arith}
use Rattle.text.specs.declared.reader.Item.{Item}
use Rattle.text.specs.Cut.{Line}
use Rattle.text.specs.Seen.{held, Takes}
use Rattle.commands.specs.declared.command.Opening.{Opening}
use Rattle.session.specs.Saying.{written}
use Rattle.session.specs.Whole.{heard_closed, unless_opened, until_opening, UpTo}
use Rattle.session.proofs.Turns.{took}
use Rattle.digits.specs.declared.line.Line as digits

-- None of the lines before those that are left opened the record.
pub record Sofar (all left : List Line) (before so_far : List ℕ) : Type 0 where
  pub written : before ++ (until_opening all).0 ≡ so_far ++ (until_opening left).0
  pub found : (until_opening all).1 ≡ (until_opening left).1

-- the first of the lines, by what it was heard as
first : (ls left : List Line) (i : Item) (heard : List ℕ × Option Opening) → Takes ls (Some i) left → heard ≡ heard_closed (held i) → until_opening ls ≡ unless_opened heard (until_opening left) left
first ls left i heard takes is =
    let found = took ls i left takes in
    ap until_opening found.1 ∙ ap (λ x. unless_opened (heard_closed x) (until_opening left) left) (sym found.2) ∙ ap (λ x. unless_opened x (until_opening left) left) (sym is)

pub so_far_more : (all ls left : List Line) (i : Item) (answer : Option digits.Line) (opening : Option Opening) (before so_far now_out : List ℕ) → Takes ls (Some i) left → (written answer, opening) ≡ heard_closed (held i) → is_some opening ≡ false → now_out ≡ so_far ++ written answer → Sofar all ls before so_far → Sofar all left before now_out
so_far_more all ls left i answer None before so_far now_out takes heard none grown h =
    let one = first ls left i (written answer, None) takes heard in
    record {
      written = h.written ∙ ap (λ x. so_far ++ x.0) one ∙ sym (append_assoc so_far (written answer) (until_opening left).0) ∙ ap (λ x. x ++ (until_opening left).0) (sym grown);
      found = h.found ∙ ap (λ x. x.1) one;
    }
so_far_more all ls left i answer (Some o) before so_far now_out takes heard none grown h = absurd (let z : ◌≡◌ {A = ℕ} 0 1 = cc in omega arith)

pub opened_here : (all ls left : List Line) (i : Item) (answer : Option digits.Line) (opening : Option Opening) (before so_far now_out : List ℕ) → Takes ls (Some i) left → (written answer, opening) ≡ heard_closed (held i) → is_some opening ≡ true → now_out ≡ so_far ++ written answer → Sofar all ls before so_far → UpTo (until_opening all) opening left before now_out
opened_here all ls left i answer None before so_far now_out takes heard some grown h = absurd (let z : ◌≡◌ {A = ℕ} 0 1 = cc in omega arith)
opened_here all ls left i answer (Some o) before so_far now_out takes heard some grown h =
    let one = first ls left i (written answer, Some o) takes heard in
    record {
      written = grown ∙ ap (λ x. so_far ++ x.0) (sym one) ∙ sym h.written;
      found_is = h.found ∙ ap (λ x. x.1) one;
    }
