-- A change makes a version that a trial may go on from.
use Rattle.std.proofs.Common.{◌≡◌, ℕ, ◌+◌, ◌<◌, ◌≤◌, true, false, not, length, IfOk, Some, None, Ok, Option, Result, sym, subst, ⊎_elim, arith}
use Rattle.std.specs.Option.{unwrap_or}
use Rattle.std.proofs.ByRecursion.{all_kept_by}
use Rattle.std.proofs.lemmas.Bool.{cases_Bool}
use Rattle.effects.specs.declared.Effect as effect
use Rattle.times.specs.declared.Time as time
use Rattle.reference.specs.declared.Operation.{Operation}
use Rattle.reference.specs.Beliefs.{kinds}
use Rattle.store.specs.declared.Store as store
use Rattle.store.specs.declared.fault.Fault.{Fault}
use Rattle.store.specs.Meaning.{fault_of}
use Rattle.order.specs.Order.{Below, has, is_at}
use Rattle.order.proofs.Stays.{below_entered, below_more, length_entered, length_kept}
use Rattle.tree.specs.Reading.{read_from}
use Rattle.tree.specs.Making.{Unchanged}
use Rattle.questions.specs.Standing.{Standing}
use Rattle.insertion.specs.Inserting.{Inserted}
use Rattle.removal.specs.Removing.{Removed}
use Rattle.trials.specs.Versions.{Version}

-- reading a store leaves its versions
pub version_read : {E St T S : Type 0} (e : effect.Ghosts E St) (t : time.Ghosts T) (s : store.Ghosts S) (a b : S) (root next : ℕ) → Version e t s a root next → Unchanged s a b → Version e t s b root next
version_read e t s a b root next version same =
    record {
      stands = subst (λ m. Standing e t m.cells root) (sym same.meaning) version.stands;
      below = subst (λ m. Below next (read_from e t m.cells root)) (sym same.meaning) version.below;
      few = subst (λ m. length (read_from e t m.cells root) ≤ next) (sym same.meaning) version.few;
    }

module _ {E St T S : Type 0} (e : effect.Ghosts E St) (t : time.Ghosts T) (s : store.Ghosts S) (a b : S) (root : ℕ) where
  pub entered_version : (op : Operation E T) (answer : Result ℕ Fault) → Version e t s a root op.number → op.number ≤ 1023 → fault_of (s.meaning a) 42 ≡ None →
      (fault_of (s.meaning a) 42 ≡ None → length (read_from e t (s.meaning a).cells root) ≤ 1023 → Inserted e t (s.meaning a) (s.meaning b) root op answer 42) →
      IfOk answer (λ k. Version e t s b k (op.number + 1))
  entered_version op answer version room claim inserts =
      let few = version.few in
      let changed = inserts claim (omega arith) in
      let reads = changed.reads in
      let belief = read_from e t (s.meaning a).cells root in
      rw changed.is (record {
        stands = changed.stands;
        below = subst (Below (op.number + 1)) (sym reads) (below_entered (kinds e t) (op.number + 1) op belief (omega arith) (below_more op.number (op.number + 1) belief (omega arith) version.below));
        few = rw reads (omega (arith, length_entered (kinds e t) op belief));
      })

  pub withdrawn_version : (next number : ℕ) (at : T) (answer : Result (Option ℕ) Fault) (found : Option ℕ) → Version e t s a root next → next ≤ 1023 → fault_of (s.meaning a) 42 ≡ None → answer ≡ Ok found →
      (has (kinds e t) number at (read_from e t (s.meaning a).cells root) ≡ true → fault_of (s.meaning a) 42 ≡ None → length (read_from e t (s.meaning a).cells root) ≤ 1023 → Removed e t (s.meaning a) (s.meaning b) root number at answer 42) →
      (has (kinds e t) number at (read_from e t (s.meaning a).cells root) ≡ false → (answer ≡ Ok None) × Unchanged s a b) →
      Version e t s b (unwrap_or found root) next
  withdrawn_version next number at answer found version room claim is removes absent =
      let few = version.few in
      let belief = read_from e t (s.meaning a).cells root in
      ⊎_elim
      (λ there.
      let changed = removes there claim (omega arith) in
      let reads = changed.reads in
      let same : found ≡ Some changed.new_root = let p = changed.is in cc in
      subst (λ o. Version e t s b (unwrap_or o root) next) (sym same) (record {
        stands = changed.stands;
        below = subst (Below next) (sym reads) (all_kept_by (λ o. not (is_at (kinds e t) number at o)) (λ o. o.number < next) belief version.below);
        few = rw reads (omega (arith, length_kept (λ o. not (is_at (kinds e t) number at o)) belief));
      }))
      (λ gone.
      let left = absent gone in
      let none : found ≡ None = let p = left.0 in cc in
      subst (λ o. Version e t s b (unwrap_or o root) next) (sym none) (version_read e t s a b root next version left.1))
      (cases_Bool (has (kinds e t) number at belief))
