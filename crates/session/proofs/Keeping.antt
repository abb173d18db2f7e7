-- What an open record was served is kept, promise and all.
use Rattle.std.proofs.Common.{◌≡◌, ℕ, List, refl, subst}
use Rattle.effects.specs.declared.Effect as effect
use Rattle.times.specs.declared.Time as time
use Rattle.payloads.specs.declared.payload.Payload as payload
use Rattle.store.specs.declared.Store as store
use Rattle.store.specs.Meaning.{Meaning}
use Rattle.reference.specs.Beliefs.{kinds}
use Rattle.layers.specs.declared.quota.Quota.{Quota}
use Rattle.layers.specs.declared.cache.Cache.{Cache}
use Rattle.text.specs.Cut.{Line}
use Rattle.commands.specs.Frames.{forms}
use Rattle.answers.specs.Lines as answers
use Rattle.law.specs.Runs.{View, Run, opened}
use Rattle.law.proofs.Keeping.{promised}
use Rattle.law.proofs.Sorting.{TimeLaws}
use Rattle.ledger.specs.Accounts.{Account}
use Rattle.ledger.specs.Shown.{shown, Stands}
use Rattle.session.specs.Saying.{calls_in, output}
use Rattle.session.specs.Serving.{Served}
use Rattle.session.specs.Records.{Adds, limits, stacked, Kept}

pub kept_from :
    {E P St T S : Type 0} (p : payload.Ghosts E P St) (e : effect.Ghosts E St) (t : time.Ghosts T) (s : store.Ghosts S) → TimeLaws t.upto
    → (m : Meaning) (lines : List Line) (before after : List ℕ) (v : View E T) (ledger : Account T (Cache (Quota S) (limits s)))
    → v ≡ opened m → Stands e t (stacked s) ledger → Served p e t lines before after v (shown e t (stacked s) ledger) → Adds (Kept s p e t m lines ledger) before after
kept_from p e t s laws m lines before after v ledger start stands served =
    let w = shown e t (stacked s) ledger in
    let calls = calls_in p.entered (forms p t) lines in
    record {
      more = output p.entered (forms p t) (answers.shown e t) lines served.replies;
      written = served.written;
      holds = record {
        replies = served.replies;
        stands = stands;
        promise = promised (kinds e t) laws (subst (λ u. Run (kinds e t) calls served.replies u w) start served.run);
        written = refl;
      };
    }
