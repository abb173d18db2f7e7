-- What a record is after the whole of an input, and what was written for it.
use Rattle.std.specs.Prelude.{◌≡◌, ℕ, List, ◌++◌, Some, None, Ok, Err, Option, Result}
use Rattle.effects.specs.declared.Effect as effect
use Rattle.times.specs.declared.Time as time
use Rattle.payloads.specs.declared.payload.Payload as payload
use Rattle.store.specs.declared.Store as store
use Rattle.counter.specs.contracts.kind.CounterEffect.TheImpl.{ghosts as counters}
use Rattle.settings.specs.contracts.kind.SettingsEffect.TheImpl.{ghosts as settings}
use Rattle.status.specs.contracts.kind.TransitionsEffect.TheImpl.{ghosts as statuses}
use Rattle.payloads.specs.contracts.counters.CounterPayload.TheImpl.{ghosts as counter_payloads}
use Rattle.payloads.specs.contracts.setups.SettingsPayload.TheImpl.{ghosts as settings_payloads}
use Rattle.payloads.specs.contracts.events.TransitionsPayload.TheImpl.{ghosts as event_payloads}
use Rattle.times.specs.contracts.clock.kind.ClockTime.TheImpl.{ghosts as clocks}
use Rattle.times.specs.contracts.place.kind.PlaceTime.TheImpl.{ghosts as places}
use Rattle.reference.specs.Beliefs.{kinds}
use Rattle.store.specs.Meaning.{Meaning}
use Rattle.layers.specs.declared.quota.Quota.{Quota}
use Rattle.layers.specs.declared.cache.Cache.{Cache}
use Rattle.layers.specs.Quotas.{limited, quota_meaning, quota_buffer}
use Rattle.layers.specs.Caches.{cache_meaning, cache_buffer}
use Rattle.text.specs.declared.flaw.Flaw.{Flaw}
use Rattle.text.specs.Cut.{Line, lines_from, length_checked}
use Rattle.commands.specs.declared.command.EffectKind.TheVariants.{Counter, Settings, Status}
use Rattle.commands.specs.declared.command.TimeKind.{TimeKind}
use Rattle.commands.specs.declared.command.TimeKind.TheVariants.{Clock, Place}
use Rattle.commands.specs.declared.command.Opening.{Opening}
use Rattle.commands.specs.Frames.{forms}
use Rattle.answers.specs.Lines as answers
use Rattle.law.specs.Runs.{Reply}
use Rattle.law.specs.Law.{Promise}
use Rattle.ledger.specs.Accounts.{Account}
use Rattle.ledger.specs.Shown.{shown, Stands}
use Rattle.counter.specs.declared.Counter as counter
use Rattle.counter.specs.declared.Level.{Level}
use Rattle.settings.specs.declared.Setup.{Setup}
use Rattle.status.specs.declared.Status.{Status as State}
use Rattle.settings.specs.declared.Settings as setting
use Rattle.status.specs.declared.Transitions as status
use Rattle.times.specs.declared.clock.Clock as clock
use Rattle.times.specs.declared.place.Place as place
use Rattle.session.specs.declared.Session.{Session}
use Rattle.session.specs.declared.OnTimes.{OnTimes}
use Rattle.session.specs.declared.OnTimes.TheVariants as on
use Rattle.session.specs.declared.OfEffects.{OfEffects}
use Rattle.session.specs.declared.OfEffects.TheVariants as of
use Rattle.session.specs.Saying.{line_of, calls_in, output}
use Rattle.session.specs.Whole.{until_opening}

-- The output `after` has something behind `before` of which P holds.
pub record Adds (P : List ℕ → Type 0) (before after : List ℕ) : Type 0 where
  pub more : List ℕ
  pub written : after ≡ before ++ more
  pub holds : P more

module _ {S : Type 0} (s : store.Ghosts S) where
  -- a quota over the store, and a cache over that
  abbrev pub limits : store.Ghosts (Quota S)
  limits = record { meaning = quota_meaning s; buffer = quota_buffer s }

  abbrev pub stacked : store.Ghosts (Cache (Quota S) limits)
  stacked = record { meaning = cache_meaning limits; buffer = cache_buffer limits }

  -- a record that is open with effects E on states St: a session over them
  abbrev pub OpenRecord : (E St : Type 0) → Type 0
  OpenRecord E St = OnTimes (Session E clock.Clock (Cache (Quota S) limits) St) (Session E place.Place (Cache (Quota S) limits) St)

  abbrev pub Record : Type 0
  Record = OfEffects S (OpenRecord counter.Counter Level) (OpenRecord setting.Settings Setup) (OpenRecord status.Transitions State)

  -- A record opened over a store of meaning m had the lines, has this ledger now, and wrote this for them: the calls of the lines are one run
  -- of the ledger, which keeps the promise, whole, and each line is answered in order.
  pub record Kept {E P St T : Type 0} (p : payload.Ghosts E P St) (e : effect.Ghosts E St) (t : time.Ghosts T) (m : Meaning) (lines : List Line) (ledger : Account T (Cache (Quota S) limits)) (out : List ℕ) : Type 0 where
    pub replies : List (Reply St T)
    pub stands : Stands e t stacked ledger
    pub promise : Promise (kinds e t) m (calls_in p.entered (forms p t) lines) replies (shown e t stacked ledger)
    pub written : out ≡ output p.entered (forms p t) (answers.shown e t) lines replies

  -- the record is open with times of the kind, and was kept so
  abbrev pub KeptOn : {E P St : Type 0} → payload.Ghosts E P St → effect.Ghosts E St → TimeKind → Meaning → List Line → OpenRecord E St → List ℕ → Type 0
  KeptOn p e times m lines (on.Clock x) out = (times ≡ Clock) × Kept p e clocks m lines x.ledger out
  KeptOn p e times m lines (on.Place x) out = (times ≡ Place) × Kept p e places m lines x.ledger out

  -- the record is open with the kinds of the opening, and was kept so
  abbrev pub KeptBy : Opening → Meaning → List Line → Record → List ℕ → Type 0
  KeptBy o m lines (of.Closed below) out = ⊥
  KeptBy o m lines (of.Counter x) out = (o.effects ≡ Counter) × KeptOn counter_payloads counters o.times m lines x out
  KeptBy o m lines (of.Settings x) out = (o.effects ≡ Settings) × KeptOn settings_payloads settings o.times m lines x out
  KeptBy o m lines (of.Status x) out = (o.effects ≡ Status) × KeptOn event_payloads statuses o.times m lines x out

  -- Of a record over a store: what the lines up to an opening gave is the output, and the record is not open; or the record was opened over
  -- its quota of that store, and the output goes on by what it wrote.
  abbrev pub AnsweredFrom : S → List ℕ × Option (Opening × List Line) → Record → List ℕ → Type 0
  AnsweredFrom below (written, None) record' out = (out ≡ written) × (record' ≡ of.Closed below)
  AnsweredFrom below (written, Some (o, lines)) record' out = Adds (KeptBy o (limited (s.meaning below) o.quota) lines record') written out

  -- The whole of an input to a record over a store: where it is too long, one refusal and nothing else; else its lines in order.
  abbrev pub AnsweredBy : S → List ℕ → Result (Unit {0}) Flaw → Record → List ℕ → Type 0
  AnsweredBy below input (Err flaw) record' out = (out ≡ line_of (answers.flaw_bytes flaw)) × (record' ≡ of.Closed below)
  AnsweredBy below input (Ok _) record' out = AnsweredFrom below (until_opening (lines_from 0 input)) record' out

  abbrev pub Answered : S → List ℕ → Record → List ℕ → Type 0
  Answered below input record' out = AnsweredBy below input (length_checked input) record' out
