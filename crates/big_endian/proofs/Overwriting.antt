-- What a part that is written over bytes leaves of them.
use Rattle.std.proofs.Common.{◌≡◌, ℕ, ◌+◌, ◌≤◌, List, ◌++◌, length, take, drop, sym, refl, ap, ◌∙◌, arith}
use borrow.Rule.Slice.PartMut.{put_mid}
use Rattle.std.proofs.lemmas.List.{append_assoc, drop-drop, length-append, length-take-le, drop_at, take_at}
use Rattle.big_endian.specs.Numbers.{overwritten}

-- bytes of which `size` from `at` on were written
pub putMid_overwritten : (at size : ℕ) (bytes written part : List ℕ) → written ≡ part → size ≡ length part → put_mid at size bytes written ≡ overwritten bytes at part
unfolding overwritten
putMid_overwritten at size bytes written part same long =
    let past : drop size (drop at bytes) ≡ drop (at + length part) bytes = drop-drop size at bytes ∙ ap (λ n. drop (at + n) bytes) long in
    cc

-- what lies before the part stays
pub take_overwritten : (bytes : List ℕ) (at : ℕ) (part : List ℕ) → at ≤ length bytes → take at (overwritten bytes at part) ≡ take at bytes
unfolding overwritten
take_overwritten bytes at part within = take_at (take at bytes) (part ++ drop (at + length part) bytes) at (length-take-le at bytes within)

-- from its place on there is the part, and then the bytes past it as they were
pub from_overwritten : (bytes : List ℕ) (at : ℕ) (part : List ℕ) → at ≤ length bytes → drop at (overwritten bytes at part) ≡ part ++ drop (at + length part) bytes
unfolding overwritten
from_overwritten bytes at part within = drop_at (take at bytes) (part ++ drop (at + length part) bytes) at (length-take-le at bytes within)

-- the bytes up to the part's end
pub through_overwritten : (bytes : List ℕ) (at end : ℕ) (part : List ℕ) → at ≤ length bytes → end ≡ at + length part → take end (overwritten bytes at part) ≡ take at bytes ++ part
unfolding overwritten
through_overwritten bytes at end part within ends =
    let front = take at bytes in
    let rest = drop (at + length part) bytes in
    let long : length (front ++ part) ≡ end = rw (length-append front part, length-take-le at bytes within) (sym ends) in
    ap (take end) (sym (append_assoc front part rest)) ∙ take_at (front ++ part) rest end long

-- what lies past the part stays
pub past_overwritten : (bytes : List ℕ) (at : ℕ) (part : List ℕ) → at ≤ length bytes → drop (at + length part) (overwritten bytes at part) ≡ drop (at + length part) bytes
past_overwritten bytes at part within =
    sym (drop-drop (length part) at (overwritten bytes at part))
    ∙ ap (drop (length part)) (from_overwritten bytes at part within)
    ∙ drop_at part (drop (at + length part) bytes) (length part) refl

-- parts that are written one after another: `laid` are the bytes so far, up to `at`, and `part` is written next
pub next_overwritten : (was now written part laid : List ℕ) (at end : ℕ) → now ≡ overwritten was at written → written ≡ part → end ≡ at + length part → end ≤ length was → take at was ≡ laid → take end now ≡ laid ++ part
next_overwritten was now written part laid at end after same ends within before =
    ap (take end) (after ∙ ap (overwritten was at) same)
    ∙ through_overwritten was at end part (omega arith) ends
    ∙ ap (λ (l : List ℕ). l ++ part) before
