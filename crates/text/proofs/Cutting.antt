-- The first line of some bytes, and the lines after it.
use Rattle.std.proofs.Common.{◌≡◌, ℕ, suc, ◌+◌, ◌-◌, ◌<◌, ◌≤◌, min, Bool, true, false, cond, eqb, List, [], ◌∷◌, length, get_or, take, drop, not, refl, ap, ◌∙◌, sym, subst, ⊎_elim, arith, length-drop, get_or-drop}
use Rattle.std.proofs.lemmas.Bool.{cases_lt, eq-eqb, ne_eqb, eqb-true}
use Rattle.std.proofs.lemmas.List.Sums.{prefix_len-le-length, position_or_len_is, fails_before_first, passes_at_first}
use Rattle.std.proofs.lemmas.List.{drop_all, drop-drop}
use Rattle.text.specs.Cut.{widened, lines_from, line_length}

-- the first byte is a newline, or it is not and stands before those of a first line of n bytes
begun : (p b : ℕ) (bs : List ℕ) (n : ℕ) → widened p b (lines_from (p + 1) bs) ≡ record { place = p; bytes = b ∷ take n bs } ∷ lines_from (p + 1 + suc n) (drop (suc n) bs) → (ended : Bool)
    → cond ended (record { place = p; bytes = [] } ∷ lines_from (p + 1) bs) (widened p b (lines_from (p + 1) bs))
    ≡ record { place = p; bytes = take (cond (not ended) (1 + n) 0) (b ∷ bs) } ∷ lines_from (p + suc (cond (not ended) (1 + n) 0)) (drop (suc (cond (not ended) (1 + n) 0)) (b ∷ bs))
begun p b bs n more true = refl
begun p b bs n more false =
    let counted : 1 + n ≡ suc n = omega arith in
    let place : p + 1 + suc n ≡ p + suc (suc n) = omega arith in
    rw counted (more ∙ ap (λ q. record { place = p; bytes = b ∷ take n bs } ∷ lines_from q (drop (suc n) bs)) place)

-- the first line has the bytes before the first newline
first_cut : (bs : List ℕ) (p : ℕ) → 0 < length bs → lines_from p bs ≡ record { place = p; bytes = take (line_length bs) bs } ∷ lines_from (p + suc (line_length bs)) (drop (suc (line_length bs)) bs)
first_cut [] p some = absurd (omega arith)
first_cut (b ∷ []) p some = begun p b [] 0 refl (eqb b 10)
first_cut (b ∷ c ∷ bs) p some = begun p b (c ∷ bs) (line_length (c ∷ bs)) (ap (widened p b) (first_cut (c ∷ bs) (p + 1) (omega arith))) (eqb b 10)

-- the same of an input s from place p on, where the line ends at e and the next may begin at q
pub next_cut : (s : List ℕ) (p e q : ℕ) → p < length s → e ≡ p + line_length (drop p s) → q ≡ min (e + 1) (length s) →
    lines_from p (drop p s) ≡ record { place = p; bytes = take (e - p) (drop p s) } ∷ lines_from q (drop q s)
next_cut s p e q some ends next =
    let n = line_length (drop p s) in
    let long = length-drop p s in
    let bytes : n ≡ e - p = omega arith in
    let past : p + suc n ≡ e + 1 = omega arith in
    first_cut (drop p s) p (omega arith)
    ∙ ap (λ i. record { place = p; bytes = take i (drop p s) } ∷ lines_from (p + suc n) (drop (suc n) (drop p s))) bytes
    ∙ ap (λ ls. record { place = p; bytes = take (e - p) (drop p s) } ∷ ls)
    (ap (lines_from _) (drop-drop (suc n) p s) ∙ ap (λ i. lines_from i (drop i s)) past
    ∙ ⊎_elim (λ h. ap (λ i. lines_from i (drop i s)) (omega arith)) (λ h. ap (lines_from (e + 1)) (drop_all (e + 1) s (omega arith)) ∙ sym (ap (lines_from q) (drop_all q s (omega arith)))) (cases_lt e (length s)))

-- n bytes, none a newline, and then a newline or the end
pub record Front (bs : List ℕ) (n : ℕ) : Type 0 where
  pub within : n ≤ length bs
  pub inside : (k : ℕ) → k < n → get_or bs k 0 ≡ 10 → ⊥
  pub stops : n < length bs → get_or bs n 0 ≡ 10

-- such are the bytes before the first newline
pub front_length : (bs : List ℕ) → Front bs (line_length bs)
front_length bs = record {
  within = prefix_len-le-length _ bs;
  inside = λ k h is. let not = sym (fails_before_first (λ b. eqb b 10) bs k 0 h) ∙ eq-eqb _ 10 is in let z : ◌≡◌ {A = ℕ} 0 1 = cc in omega arith;
  stops = λ h. eqb-true _ 10 (passes_at_first (λ b. eqb b 10) bs 0 h);
}

-- and no others
pub length_front : (bs : List ℕ) (n : ℕ) → Front bs n → line_length bs ≡ n
length_front bs n f = position_or_len_is (λ b. eqb b 10) bs n 0 f.within (λ k h. ne_eqb _ 10 (f.inside k h)) (λ h. eq-eqb _ 10 (f.stops h))

-- so they are the first line
first_line : (bs : List ℕ) (p n : ℕ) → 0 < length bs → Front bs n → lines_from p bs ≡ record { place = p; bytes = take n bs } ∷ lines_from (p + suc n) (drop (suc n) bs)
first_line bs p n some f =
    subst (λ m. lines_from p bs ≡ record { place = p; bytes = take m bs } ∷ lines_from (p + suc m) (drop (suc m) bs)) (length_front bs n f) (first_cut bs p some)

-- a line of s that begins at p ends at e, where no newline stands between, and one at e or nothing
pub line_ends : (s : List ℕ) (p e : ℕ) → p ≤ e → e ≤ length s → ((k : ℕ) → p ≤ k → k < e → get_or s k 0 ≡ 10 → ⊥) → (e < length s → get_or s e 0 ≡ 10) → e ≡ p + line_length (drop p s)
line_ends s p e low high inside stops =
    let long = length-drop p s in
    let at : (k : ℕ) → get_or (drop p s) k 0 ≡ get_or s (p + k) 0 = λ k. get_or-drop p s k 0 in
    let back : p + (e - p) ≡ e = omega arith in
    let f : Front (drop p s) (e - p) = record {
      within = omega arith;
      inside = λ k h is. inside (p + k) (omega arith) (omega arith) (sym (at k) ∙ is);
      stops = λ h. at (e - p) ∙ ap (λ i. get_or s i 0) back ∙ stops (omega arith);
    } in
    let ends = length_front (drop p s) (e - p) f in omega arith

-- so the lines from p on are that line and those from the next on, which may begin at q
pub taken : (s : List ℕ) (p e q : ℕ) → p < length s → p ≤ e → e ≤ length s → ((k : ℕ) → p ≤ k → k < e → get_or s k 0 ≡ 10 → ⊥) → (e < length s → get_or s e 0 ≡ 10) → q ≡ min (e + 1) (length s) →
    lines_from p (drop p s) ≡ record { place = p; bytes = take (e - p) (drop p s) } ∷ lines_from q (drop q s)
taken s p e q some low high inside stops next = next_cut s p e q some (line_ends s p e low high inside stops) next

-- no line begins at the end
pub none_left : (p : ℕ) (s : List ℕ) → length s ≤ p → lines_from p (drop p s) ≡ []
none_left p s h = ap (lines_from p) (drop_all p s h)
