-- One line more, and then the others: what the lines that are left give, the lines from the first on give behind what was written so far.
use Rattle.std.proofs.Common.{◌≡◌, ℕ, List, [], ◌∷◌, ◌++◌, Some, None, Option, sym, refl, ap, ◌∙◌, subst, append_assoc, append-nil}
use Rattle.effects.specs.declared.Effect as effect
use Rattle.times.specs.declared.Time as time
use Rattle.payloads.specs.declared.payload.Payload as payload
use Rattle.store.specs.declared.Store as store
use Rattle.reference.specs.Beliefs.{kinds}
use Rattle.calls.specs.declared.call.Call.{Call}
use Rattle.text.specs.declared.reader.Item.{Item}
use Rattle.text.specs.Cut as text
use Rattle.text.specs.Cut.{part}
use Rattle.text.specs.Seen.{held, Takes}
use Rattle.digits.specs.declared.line.Line.{Line}
use Rattle.commands.specs.Frames.{forms}
use Rattle.answers.specs.Lines as answers
use Rattle.law.specs.Runs.{Reply, View, Run, rest, then}
use Rattle.ledger.specs.Accounts.{Account}
use Rattle.ledger.specs.Shown.{shown}
use Rattle.session.specs.Saying.{written, Said, remarks, flawed, asks, with_call, with_answer, said, calls_in, output}
use Rattle.session.specs.Serving.{Hears, Served}

-- the line of an item that was taken from lines
pub took : (ls : List text.Line) (i : Item) (left : List text.Line) → Takes ls (Some i) left → (l : text.Line) × (ls ≡ l ∷ left) × (held i ≡ part l)
took [] i left h = absurd h
took (l ∷ ls) i left h = (l, ap (λ x. l ∷ x) (sym h.1), h.0)

pub none_left : (ls left : List text.Line) → Takes ls None left → ls ≡ []
none_left [] left h = refl
none_left (l ∷ ls) left h = absurd h

-- an answer is written behind what was written so far
pub behind : (so_far answer at now_out : List ℕ) → now_out ≡ at ++ answer → at ≡ so_far → now_out ≡ so_far ++ answer
behind so_far answer at now_out grown same = cc

module _ {E P St T : Type 0} (p : payload.Ghosts E P St) (e : effect.Ghosts E St) (t : time.Ghosts T) where
  abbrev calls_of : List text.Line → List (Call E T)
  calls_of ls = calls_in p.entered (forms p t) ls

  abbrev output_of : List text.Line → List (Reply St T) → List ℕ
  output_of ls xs = output p.entered (forms p t) (answers.shown e t) ls xs

  -- Whatever run the lines have that are left, all lines have one, and write before it what is written so far.
  pub record Onward (all left : List text.Line) (before so_far : List ℕ) (v u : View E T) : Type 0 where
    pub on :
        (xs : List (Reply St T)) (w : View E T) → Run (kinds e t) (calls_of left) xs u w
        → (ys : List (Reply St T)) × Run (kinds e t) (calls_of all) ys v w × (before ++ output_of all ys ≡ so_far ++ output_of left xs)

  -- where no line is left
  pub onward_end : (all left : List text.Line) (before so_far after : List ℕ) (v u : View E T) → left ≡ [] → after ≡ so_far → Onward all left before so_far v u → Served p e t all before after v u
  onward_end all left before so_far after v u none same h =
      let done = (subst (λ ls. Onward all ls before so_far v u) none h).on [] u rest in
      record { replies = done.0; run = done.1; written = same ∙ sym (done.2 ∙ append-nil so_far) }

  module _ {S : Type 0} (s : store.Ghosts S) where
    -- one line, whatever it says, and those after it
    turn : (said : Said E T) (answer : Option Line) (before after : Account T S) (cs : List (Call E T)) (tail : List (Reply St T) → List ℕ) (xs : List (Reply St T)) (w : View E T) → Hears e t s said answer before after → Run (kinds e t) cs xs (shown e t s after) w
        → (ys : List (Reply St T)) × Run (kinds e t) (with_call said cs) ys (shown e t s before) w × (with_answer (answers.shown e t) said tail ys ≡ written answer ++ tail xs)
    turn remarks answer before after cs tail xs w h run = (xs, subst (λ l. Run (kinds e t) cs xs (shown e t s l) w) h.1 run, ap (λ a. written a ++ tail xs) (sym h.0))
    turn (flawed flaw) answer before after cs tail xs w h run = (xs, subst (λ l. Run (kinds e t) cs xs (shown e t s l) w) h.1 run, ap (λ a. a ++ tail xs) (sym h.0))
    turn (asks code call) answer before after cs tail xs w h run = (h.reply ∷ xs, then h.step run, ap (λ a. a ++ tail xs) (sym h.line))

    -- one item more
    pub onward_more : (all ls left : List text.Line) (i : Item) (answer : Option Line) (out so_far now_out : List ℕ) (v : View E T) (before after : Account T S) → Takes ls (Some i) left → Hears e t s (said p.entered (forms p t) (held i)) answer before after → now_out ≡ so_far ++ written answer
        → Onward all ls out so_far v (shown e t s before) → Onward all left out now_out v (shown e t s after)
    onward_more all ls left i answer out so_far now_out v before after takes hears grown h = record {
      on = λ xs w run.
          let found = took ls i left takes in
          let l = found.0 in
          let heard = subst (λ x. Hears e t s (said p.entered (forms p t) x) answer before after) found.2 hears in
          let one = turn (said p.entered (forms p t) (part l)) answer before after (calls_of left) (output_of left) xs w heard run in
          let rest_run = subst (λ x. Run (kinds e t) (calls_of x) one.0 (shown e t s before) w) (sym found.1) one.1 in
          let done = h.on one.0 w rest_run in (
            done.0,
            done.1,
            done.2 ∙ ap (λ x. so_far ++ output_of x one.0) found.1 ∙ ap (λ x. so_far ++ x) one.2 ∙ sym (append_assoc so_far (written answer) (output_of left xs)) ∙ ap (λ x. x ++ output_of left xs) (sym grown),
          );
    }
