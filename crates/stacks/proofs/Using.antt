-- A cell that was put is got again, and what was claimed can be put.
use Rattle.std.proofs.Common.{◌≡◌, ℕ, ◌+◌, ◌<◌, true, [], ◌∷◌, length, replicate, is_err, None, Ok, Err, Option, Result, sym, ap, ◌∙◌, arith}
use Rattle.std.proofs.lemmas.List.{length-replicate, replicate_more}
use Rattle.cells.specs.declared.Cell.{Cell}
use Rattle.store.specs.Meaning.{Meaning, fault_of, unless, put_answer, after_put, with_cells, got}
use Rattle.store.specs.declared.fault.Fault.{Fault}
use Rattle.store.proofs.Finding.{cell_last, there_got}
use Rattle.stacks.specs.Copies.{copies_unless, after_copies}
use Rattle.store.proofs.Granting.{Room, room_granted, room_after, room_less, free_granted, after_free, answer_free, put_accepted, with_more}

-- what is no error is not one
pub ok_no_error : {A E P : Type 0} (r : Result A E) (a : A) → r ≡ Ok a → is_err r ≡ true → P
ok_no_error (Ok x) a ok error = absurd (let z : ◌≡◌ {A = ℕ} 0 1 = cc in omega arith)
ok_no_error (Err e) a ok error = absurd (let z : ◌≡◌ {A = ℕ} 0 1 = cc in omega arith)

-- a get of the number that a put answered answers the cell
pub got_again : (m n : Meaning) (c : Cell) (number : ℕ) (r : Result Cell Fault) → Ok number ≡ put_answer m → n ≡ after_put m c → r ≡ got n number → r ≡ Ok c
got_again m n c number r ok after got_it =
    let free = put_accepted m number ok in
    got_it
    ∙ ap (λ (o : Meaning). got o number) (after ∙ after_free m c free.0)
    ∙ ap (got (with_cells m (c ∷ []))) free.1
    ∙ sym (there_got (with_cells m (c ∷ [])) (length m.cells + 1) c (cell_last m.cells c))

-- which is what an accepted put of it promises
pub accepted_again : (m : Meaning) (c : Cell) (number : ℕ) (r : Result Cell Fault) → Ok number ≡ put_answer m → r ≡ Ok c → r ≡ unless (fault_of m 1) c
accepted_again m c number r ok again = again ∙ sym (ap (λ (fault : Option Fault). unless fault c) (put_accepted m number ok).0)

-- all n copies are what the claim promised
pub all_copies : (m now : Meaning) (c : Cell) (n i : ℕ) → fault_of m n ≡ None → i ≡ n → now ≡ with_cells m (replicate i c) → now ≡ after_copies m c n
all_copies m now c n i free all copies = copies ∙ ap (λ (k : ℕ). with_cells m (replicate k c)) all ∙ sym (ap (λ (fault : Option Fault). copies_unless fault m c n) free)

-- After i of n claimed puts the next one is accepted.
module _ (m : Meaning) (c : Cell) (n i : ℕ) (free : fault_of m n ≡ None) (more : i < n) where
  next_free : fault_of (with_cells m (replicate i c)) 1 ≡ None
  next_free =
      let long : length (replicate i c) ≡ i = length-replicate i c in
      let room : Room m (length (replicate i c) + 1) = room_less m n (length (replicate i c) + 1) (omega arith) (room_granted m n free) in
      free_granted (with_cells m (replicate i c)) 1 (room_after m 1 (replicate i c) room)

  pub next_accepted : {P : Type 0} (now : Meaning) (fault : Fault) → now ≡ with_cells m (replicate i c) → Err fault ≡ put_answer now → P
  next_accepted now fault copies refused =
      let ok = answer_free (with_cells m (replicate i c)) next_free in
      ok_no_error (put_answer now) (length (with_cells m (replicate i c)).cells + 1) (ap put_answer copies ∙ ok) (ap is_err (sym refused))

  pub next_copy : (now next : Meaning) → now ≡ with_cells m (replicate i c) → next ≡ after_put now c → next ≡ with_cells m (replicate (i + 1) c)
  next_copy now next copies after =
      after
      ∙ ap (λ (o : Meaning). after_put o c) copies
      ∙ after_free (with_cells m (replicate i c)) c next_free
      ∙ with_more m (replicate i c) (c ∷ [])
      ∙ ap (with_cells m) (replicate_more i c)
