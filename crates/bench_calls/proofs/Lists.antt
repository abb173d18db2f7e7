-- Steps of the loops that read calls and write replies.
use Rattle.std.proofs.Common.{◌≡◌, ℕ, ◌+◌, ◌<◌, ◌≤◌, List, [], ◌∷◌, ◌++◌, map, length, get_or, take, drop, set, Some, None, sym, ap, ◌∙◌, subst, arith}
use Rattle.std.proofs.lemmas.List.{take_more, drop_more, drop_all, set_at, length-take, length-take-le, length-map, get_or-map, get_or-take, append_assoc, append-nil}
use Rattle.effects.specs.declared.Effect as effect
use Rattle.times.specs.declared.Time as time
use Rattle.calls.specs.declared.call.Call.{Call}
use Rattle.bench_calls.specs.declared.CallNumbers.{CallNumbers}
use Rattle.bench_calls.specs.Numbers.{front, call_in, calls_in, replaced}

replaced_more : {A : Type 0} (new old : List A) (i : ℕ) (d : A) → i < length new → i < length old → set (replaced i new old) i (get_or new i d) ≡ replaced (i + 1) new old
replaced_more new old i d inside room =
    let v = get_or new i d in
    ap (λ xs. set (take i new ++ xs) i v) (drop_more old i d room)
    ∙ set_at (take i new) (get_or old i d) (drop (i + 1) old) v i (length-take-le i new (omega arith))
    ∙ sym (append_assoc (take i new) (v ∷ []) (drop (i + 1) old))
    ∙ ap (λ xs. xs ++ drop (i + 1) old) (sym (take_more new i d inside))

-- one more of the first n places written
pub written_more : {A B : Type 0} (f : A → B) (xs : List A) (old now : List B) (n i : ℕ) (x : A) → n ≤ length old → i < length (take n xs) → now ≡ replaced i (map f xs) old → x ≡ get_or (take n xs) i x → set now i (f x) ≡ replaced (i + 1) (map f xs) old
written_more f xs old now n i x room more so_far read =
    let low : i < n = omega (arith, length-take n xs) in
    let inside : i < length xs = omega (arith, length-take n xs) in
    let same : f x ≡ get_or (map f xs) i (f x) = ap f (read ∙ get_or-take n xs i x low) ∙ sym (get_or-map f xs i x (f x) inside) in
    ap (λ o. set o i (f x)) so_far
    ∙ ap (λ v. set (replaced i (map f xs) old) i v) same
    ∙ replaced_more (map f xs) old i (f x) (subst (λ k. i < k) (sym (length-map xs f)) inside) (omega arith)

module _ {E St T : Type 0} (e : effect.Ghosts E St) (t : time.Ghosts T) (asked : List CallNumbers) (i : ℕ) (done : List (Call E T)) (so_far : done ++ calls_in e t (drop i asked) ≡ calls_in e t asked) where
  -- one more call read
  pub read_more : (d : CallNumbers) (c : Call E T) → i < length asked → call_in e t (get_or asked i d) ≡ Some c → (done ++ (c ∷ [])) ++ calls_in e t (drop (i + 1) asked) ≡ calls_in e t asked
  read_more d c inside is =
      append_assoc done (c ∷ []) (calls_in e t (drop (i + 1) asked))
      ∙ ap (λ o. done ++ front o (calls_in e t (drop (i + 1) asked))) (sym is)
      ∙ ap (λ xs. done ++ calls_in e t xs) (sym (drop_more asked i d inside))
      ∙ so_far

  -- the next numbers are no call's
  pub read_front : (d : CallNumbers) → i < length asked → call_in e t (get_or asked i d) ≡ None → done ≡ calls_in e t asked
  read_front d inside is =
      sym (append-nil done)
      ∙ ap (λ o. done ++ front o (calls_in e t (drop (i + 1) asked))) (sym is)
      ∙ ap (λ xs. done ++ calls_in e t xs) (sym (drop_more asked i d inside))
      ∙ so_far

  -- no numbers are left
  pub read_all : length asked ≤ i → done ≡ calls_in e t asked
  read_all end = sym (append-nil done) ∙ ap (λ xs. done ++ calls_in e t xs) (sym (drop_all i asked end)) ∙ so_far
