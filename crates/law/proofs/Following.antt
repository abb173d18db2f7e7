-- How the beliefs of a ledger follow from its accepted changes, and what each change makes of them.
use Rattle.std.proofs.Common.{◌≡◌, ℕ, ◌+◌, ◌-◌, ◌<◌, ◌≤◌, true, false, List, [], ◌∷◌, ◌++◌, length, get_or, sym, refl, ap, ◌∙◌, subst, ⊎_elim, arith}
use Rattle.std.specs.List.{AllByRecursion}
use Rattle.std.proofs.lemmas.List.{length_push, get_or_push, get_or_append_left, append_assoc, append-nil}
use Rattle.std.proofs.lemmas.List.Elements.{AllZip-push}
use Rattle.std.proofs.ByRecursion.{All-weaker, All-push, all_kept_by, All-get_or}
use Rattle.reference.specs.declared.Operation.{Operation}
use Rattle.reference.specs.Beliefs.{Kinds, Belief, before, entered, without}
use Rattle.calls.specs.declared.call.Call.{Call}
use Rattle.calls.specs.declared.call.Call.TheVariants.{Enter, Withdraw, State, Latest, Count}
use Rattle.calls.specs.Verdict.{Beliefs, opening, latest_number, latest_belief}
use Rattle.law.specs.Runs.{Reply, View, Run, rest, then, Change, noted, accepted}
use Rattle.law.specs.Law.{entries, calls_of}
use Rattle.law.proofs.Sorting.{TimeLaws, Below, Sorted, SameOps, without_entered, all_entered, length_entered, length_without, entered_last, not_before, sorted_entered, sorted_kept}
use Rattle.law.proofs.Stepping.{Makes, by_step}

pub latest_push : {E T : Type 0} (bs : Beliefs E T) (b : Belief E T) → latest_belief (bs ++ (b ∷ [])) ≡ b
latest_push bs b = get_or_push bs b [] (latest_number (bs ++ (b ∷ []))) (omega (arith, length_push bs b))

module _ {E T S : Type 0} (k : Kinds E T S) where
  -- ds follow from bs by the changes hs
  abbrev pub Follows : Beliefs E T → List (Change E T) → Beliefs E T → Type 0
  Follows bs [] ds = ds ≡ bs
  Follows bs (h ∷ hs) ds = (b : Belief E T) × (h.belief ≡ length bs) × Makes k bs h.call b × (length bs ≤ 1023) × Follows (bs ++ (b ∷ [])) hs ds

  pub followed : {cs : List (Call E T)} {xs : List (Reply S T)} {v w : View E T} → Run k cs xs v w → Follows v.beliefs (accepted cs xs) w.beliefs
  followed rest = refl
  followed (then {c = c} {a = a} {cs = cs} {xs = xs} {u = u} {v = v} {w = w} s r) =
      let hs = accepted cs xs in
      ⊎_elim
      (λ q. subst (λ l. Follows u.beliefs l w.beliefs) (sym (q.quiet hs)) (subst (λ z. Follows z.beliefs hs w.beliefs) q.same (followed r)))
      (λ q.
      subst (λ y. Follows u.beliefs (noted c y hs) w.beliefs) (sym q.grows.answer)
      (q.belief, refl, q.made, q.room, subst (λ z. Follows z.beliefs hs w.beliefs) q.grows.after (followed r)))
      (by_step k c a u v s)

  -- what was there stays there
  stays : (hs : List (Change E T)) (bs ds : Beliefs E T) (i : ℕ) → i < length bs → Follows bs hs ds → (i < length ds) × (get_or ds i [] ≡ get_or bs i [])
  stays [] bs ds i l f = (subst (λ z. i < length z) (sym f) l, ap (λ z. get_or z i []) f)
  stays (h ∷ hs) bs ds i l f =
      let p = stays hs (bs ++ (f.0 ∷ [])) ds i (omega (arith, length_push bs f.0)) f.4 in
      (p.0, p.1 ∙ get_or_append_left bs (f.0 ∷ []) [] i l)

  -- in order, numbered below n, and fewer than n
  abbrev pub Proper : ℕ → Belief E T → Type 0
  Proper n b = Sorted k.upto b × Below n b × (length b < n)

  -- what every ledger's beliefs are
  pub record Sound (bs : Beliefs E T) : Type 0 where
    pub some : 0 < length bs
    pub room : length bs ≤ 1024
    pub proper : AllByRecursion (Proper (length bs)) bs

  pub sound_opening : Sound opening
  sound_opening = record { some = omega arith; room = omega arith; proper = ((tt, tt, omega arith), tt) }

  pub latest_proper : (bs : Beliefs E T) → Sound bs → Proper (length bs) (latest_belief bs)
  latest_proper bs h = let some = h.some in All-get_or (Proper (length bs)) bs (latest_number bs) [] (omega arith) h.proper

  proper_weaker : (m n : ℕ) → m ≤ n → (b : Belief E T) → Proper m b → Proper n b
  proper_weaker m n l b h = (h.0, All-weaker (λ o. o.number < m) (λ o. o.number < n) (λ o q. omega arith) b h.1, omega (arith, h.2))

  module _ (laws : TimeLaws k.upto) where
    makes_proper : (bs : Beliefs E T) (c : Call E T) (b : Belief E T) → Sound bs → Makes k bs c b → Proper (length bs + 1) b
    makes_proper bs (Enter t e) b h m =
        let o : Operation E T = record { number = length bs; time = t; effect = e } in
        let p = latest_proper bs h in
        let q = proper_weaker (length bs) (length bs + 1) (omega arith) (latest_belief bs) p in
        subst (Proper (length bs + 1)) (sym m) (
          sorted_entered k laws o (latest_belief bs) p.0,
          all_entered k (λ x. x.number < length bs + 1) o (latest_belief bs) (omega arith) q.1,
          omega (arith, length_entered k o (latest_belief bs), p.2),
        )
    makes_proper bs (Withdraw n) b h m =
        let p = latest_proper bs h in
        let q = proper_weaker (length bs) (length bs + 1) (omega arith) (latest_belief bs) p in
        subst (Proper (length bs + 1)) (sym m)
        (sorted_kept k _ (latest_belief bs) p.0, all_kept_by _ _ (latest_belief bs) q.1, omega (arith, length_without n (latest_belief bs), p.2))
    makes_proper bs (State n t) b h m = absurd m
    makes_proper bs (Latest n t) b h m = absurd m
    makes_proper bs (Count n) b h m = absurd m

    sound_more : (bs : Beliefs E T) (c : Call E T) (b : Belief E T) → Sound bs → length bs ≤ 1023 → Makes k bs c b → Sound (bs ++ (b ∷ []))
    sound_more bs c b h room m = record {
      some = omega (arith, length_push bs b);
      room = omega (arith, length_push bs b);
      proper =
          subst (λ n. AllByRecursion (Proper n) (bs ++ (b ∷ []))) (sym (length_push bs b))
          (All-push (Proper (length bs + 1)) bs b (All-weaker (Proper (length bs)) (Proper (length bs + 1)) (proper_weaker _ _ (omega arith)) bs h.proper) (makes_proper bs c b h m));
    }

    pub sound : (hs : List (Change E T)) (bs ds : Beliefs E T) → Sound bs → Follows bs hs ds → Sound ds
    sound [] bs ds h f = subst Sound (sym f) h
    sound (x ∷ hs) bs ds h f = sound hs (bs ++ (f.0 ∷ [])) ds (sound_more bs x.call f.0 h f.3 f.2) f.4

    -- The entry just made, withdrawn: the new belief is the one before the entry.
    pub undone : (t : T) (e : E) (n m x y : ℕ) (earlier later : List (Change E T)) (bs ds : Beliefs E T) → Sound bs → Follows bs (earlier ++ (record { call = Enter t e; belief = n; cells = x } ∷ (record { call = Withdraw n; belief = m; cells = y } ∷ later))) ds → (m < length ds) × (n - 1 < length ds) × (get_or ds m [] ≡ get_or ds (n - 1) [])
    undone t e n m x y [] later bs ds h f =
        let o : Operation E T = record { number = length bs; time = t; effect = e } in
        let some = h.some in
        let b = f.0 in
        let cs = bs ++ (b ∷ []) in
        let d = f.4.0 in
        let same : d ≡ latest_belief bs =
        f.4.2
        ∙ ap (λ z. without n z) (latest_push bs b ∙ f.2)
        ∙ ap (λ z. without z (entered k o (latest_belief bs))) f.1
        ∙ without_entered k o (latest_belief bs) (latest_proper bs h).1
        in
        let new = stays later (cs ++ (d ∷ [])) ds m (omega (arith, length_push cs d, f.4.1)) f.4.4 in
        let old = stays later (cs ++ (d ∷ [])) ds (n - 1) (omega (arith, length_push cs d, length_push bs b, f.1)) f.4.4 in (
          new.0,
          old.0,
          new.1 ∙ get_or_push cs d [] m (sym f.4.1) ∙ same ∙ ap (λ z. get_or bs (z - 1) []) (sym f.1)
              ∙ sym (get_or_append_left bs (b ∷ []) [] (n - 1) (omega (arith, f.1))) ∙ sym (get_or_append_left cs (d ∷ []) [] (n - 1) (omega (arith, length_push bs b, f.1))) ∙ sym old.1,
        )
    undone t e n m x y (z ∷ earlier) later bs ds h f =
        undone t e n m x y earlier later (bs ++ (f.0 ∷ [])) ds (sound_more bs z.call f.0 h f.3 f.2) f.4

  all_middle : {A : Type 0} (P : A → Type 0) (xs : List A) (y : A) (zs : List A) → AllByRecursion P (xs ++ (y ∷ zs)) → P y
  all_middle P [] y zs h = h.0
  all_middle P (x ∷ xs) y zs h = all_middle P xs y zs h.1

  -- in a sorted belief, what stands before an operation is not after it
  sorted_middle : (p : Belief E T) (o : Operation E T) (q : Belief E T) → Sorted k.upto (p ++ (o ∷ q)) → AllByRecursion (λ x. k.upto x.time o.time ≡ true) p
  sorted_middle [] o q h = tt
  sorted_middle (x ∷ p) o q h = (all_middle (λ y. k.upto x.time y.time ≡ true) p o q h.0, sorted_middle p o q h.1)

  -- such an operation, of a higher number, comes before none of another belief with the same times
  before_none : (o : Operation E T) (p c : Belief E T) → SameOps p c → AllByRecursion (λ x. k.upto x.time o.time ≡ true) p → Below o.number c → AllByRecursion (λ x. before k o x ≡ false) c
  before_none o [] [] s h l = tt
  before_none o [] (y ∷ c) s h l = absurd s
  before_none o (x ∷ p) [] s h l = absurd s
  before_none o (x ∷ p) (y ∷ c) s h l = (not_before k o y (subst (λ t. k.upto t o.time ≡ true) s.0.0 h.0) l.0, before_none o p c s.1 h.1 l.1)

  module _ (laws : TimeLaws k.upto) where
    -- A ledger whose latest belief has the operations p, and that then accepted just the entries of q.
    pub replayed : (hs : List (Change E T)) (p q : Belief E T) (bs ds : Beliefs E T) → Sound bs → Sorted k.upto (p ++ q) → SameOps p (latest_belief bs) → calls_of hs ≡ entries q → Follows bs hs ds → SameOps (p ++ q) (latest_belief ds)
    replayed [] p [] bs ds h o s e f = subst (λ z. SameOps z (latest_belief ds)) (sym (append-nil p)) (subst (λ z. SameOps p (latest_belief z)) (sym f) s)
    replayed [] p (x ∷ q) bs ds h o s e f = let z : ◌≡◌ {A = ℕ} 0 1 = cc in absurd (omega arith)
    replayed (y ∷ hs) p [] bs ds h o s e f = let z : ◌≡◌ {A = ℕ} 0 1 = cc in absurd (omega arith)
    replayed (y ∷ hs) p (x ∷ q) bs ds h o s e f =
        let first : y.call ≡ Enter x.time x.effect = cc in
        let others : calls_of hs ≡ entries q = cc in
        let new : Operation E T = record { number = length bs; time = x.time; effect = x.effect } in
        let made : f.0 ≡ entered k new (latest_belief bs) = subst (λ c. Makes k bs c f.0) first f.2 in
        let last : f.0 ≡ latest_belief bs ++ (new ∷ []) = made ∙ entered_last k new (latest_belief bs) (before_none new p (latest_belief bs) s (sorted_middle p x q o) (latest_proper bs h).1) in
        let cs = bs ++ (f.0 ∷ []) in
        let same : SameOps (p ++ (x ∷ [])) (latest_belief cs) =
        subst (SameOps (p ++ (x ∷ []))) (sym (latest_push bs f.0 ∙ last))
        (AllZip-push (λ u v. (u.time ≡ v.time) × (u.effect ≡ v.effect)) p (latest_belief bs) x new s (refl, refl))
        in
        let regroup : (p ++ (x ∷ [])) ++ q ≡ p ++ (x ∷ q) = append_assoc p (x ∷ []) q in
        subst (λ z. SameOps z (latest_belief ds)) regroup
        (replayed hs (p ++ (x ∷ [])) q cs ds (sound_more laws bs y.call f.0 h f.3 f.2) (subst (Sorted k.upto) (sym regroup) o) same others f.4)
