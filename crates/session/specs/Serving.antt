-- One line to an open record, and a list of them.
use Rattle.std.specs.Prelude.{◌≡◌, ℕ, true, List, [], ◌∷◌, ◌++◌, is_err, None, Option}
use Rattle.effects.specs.declared.Effect as effect
use Rattle.times.specs.declared.Time as time
use Rattle.payloads.specs.declared.payload.Payload as payload
use Rattle.store.specs.declared.Store as store
use Rattle.reference.specs.Beliefs.{kinds}
use Rattle.calls.specs.declared.call.Call.{Call}
use Rattle.text.specs.Cut as text
use Rattle.digits.specs.declared.line.Line.{Line}
use Rattle.commands.specs.Frames.{forms}
use Rattle.answers.specs.Lines as answers
use Rattle.law.specs.Runs.{Reply, View, Step, Run}
use Rattle.law.specs.Law.{Continues}
use Rattle.ledger.specs.Accounts.{Account}
use Rattle.ledger.specs.Shown.{shown}
use Rattle.session.specs.Saying.{line_of, written, Said, remarks, flawed, asks, calls_in, output}

module _ {E St T S : Type 0} (e : effect.Ghosts E St) (t : time.Ghosts T) (s : store.Ghosts S) where
  -- A call under a code was carried out: one step of the ledger, answered by its reply as a line. The promise goes on with it, and
  -- where it is refused the rows of the beliefs and the store's buffer are as they were.
  pub record Carried (code : ℕ) (call : Call E T) (answer : Option Line) (before after : Account T S) : Type 0 where
    pub reply : Reply St T
    pub step : Step (kinds e t) call reply (shown e t s before) (shown e t s after)
    pub lawful : Continues (kinds e t) (shown e t s before) (call ∷ []) (reply ∷ []) (shown e t s after)
    pub line : written answer ≡ line_of (answers.answer_bytes (answers.shown e t) code reply)
    pub rows : is_err reply ≡ true → after.rows ≡ before.rows
    pub buffer : is_err reply ≡ true → s.buffer after.store ≡ s.buffer before.store

  -- What is answered to a line, and what the ledger is after it: a remark and a refused frame leave it whole as it was.
  abbrev pub Hears : Said E T → Option Line → Account T S → Account T S → Type 0
  Hears remarks answer before after = (answer ≡ None) × (after ≡ before)
  Hears (flawed flaw) answer before after = (written answer ≡ line_of (answers.flaw_bytes flaw)) × (after ≡ before)
  Hears (asks code call) answer before after = Carried code call answer before after

-- The lines took a ledger from one view to another by one run of their calls, and what was written for them came behind the output before.
pub record Served {E P St T : Type 0} (p : payload.Ghosts E P St) (e : effect.Ghosts E St) (t : time.Ghosts T) (lines : List text.Line) (before after : List ℕ) (v w : View E T) : Type 0 where
  pub replies : List (Reply St T)
  pub run : Run (kinds e t) (calls_in p.entered (forms p t) lines) replies v w
  pub written : after ≡ before ++ output p.entered (forms p t) (answers.shown e t) lines replies
