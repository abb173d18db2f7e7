-- Every row of the table is its event's.
use Rattle.std.proofs.Common.{◌≡◌, ℕ, zero, suc, ◌+◌, ◌-◌, ◌*◌, ◌<◌, List, [], ◌∷◌, ◌++◌, map, length, get_or, sym, refl, ap, ◌∙◌, arith, lit<}
use lib.ListN.{length-map}
use Rattle.std.specs.List.{flat_map}
use Rattle.std.proofs.lemmas.List.{get_or_append_left, get_or-append-add, get_or-map}
use Rattle.status.specs.Codes.{status_of}
use Rattle.status.specs.Events.{events, event_code, row, rows, becomes, becomes_eight}
use Rattle.status.specs.declared.Event.{Event}
use Rattle.status.specs.declared.Event.TheVariants.{PowerOn, PowerOff, Heat, Start, Pause, Resume, EndOfJob, Cooled, IntoService, OutOfService, Fault}
use Rattle.status.specs.declared.Status.{Status}

-- an event's row as numbers
abbrev numbers : Event → List ℕ
numbers event = map (λ c. c - 48) (row event)

numbers_eight : (event : Event) → length (numbers event) ≡ 8
numbers_eight event = length-map (row event) (λ c. c - 48) ∙ sym (length-map (row event) (λ c. status_of (c - 48))) ∙ becomes_eight event

-- rows of eight one after the other: entry i of row n stands at 8 * n + i
row_at : (es : List Event) (n i : ℕ) (d : Event) → n < length es → i < 8 → get_or (flat_map numbers es) (8 * n + i) 0 ≡ get_or (numbers (get_or es n d)) i 0
row_at [] n i d inside small = absurd (omega arith)
row_at (e ∷ es) zero i d inside small =
    let here : i < length (numbers e) = omega (arith, numbers_eight e) in
    ap (λ k. get_or (numbers e ++ flat_map numbers es) k 0) (omega arith) ∙ get_or_append_left (numbers e) (flat_map numbers es) 0 i here
row_at (e ∷ es) (suc n) i d inside small =
    let past : 8 * suc n + i ≡ length (numbers e) + (8 * n + i) = omega (arith, numbers_eight e) in
    ap (λ k. get_or (numbers e ++ flat_map numbers es) k 0) past ∙ get_or-append-add (numbers e) (flat_map numbers es) (8 * n + i) 0 ∙ row_at es n i d (omega arith) small

-- an event stands at its code less 1
event_at : (event : Event) → (event_code event - 1 < 11) × (get_or events (event_code event - 1) PowerOn ≡ event)
event_at PowerOn = (lit< tt, refl)
event_at PowerOff = (lit< tt, refl)
event_at Heat = (lit< tt, refl)
event_at Start = (lit< tt, refl)
event_at Pause = (lit< tt, refl)
event_at Resume = (lit< tt, refl)
event_at EndOfJob = (lit< tt, refl)
event_at Cooled = (lit< tt, refl)
event_at IntoService = (lit< tt, refl)
event_at OutOfService = (lit< tt, refl)
event_at Fault = (lit< tt, refl)

pub row_entry : (event : Event) (i : ℕ) (d : Status) → i < 8 → status_of (get_or rows (8 * (event_code event - 1) + i) 0) ≡ get_or (becomes event) i d
row_entry event i d small =
    let at = event_at event in
    let here : i < length (row event) = omega (arith, sym (length-map (row event) (λ c. c - 48)) ∙ numbers_eight event) in
    ap status_of (row_at events (event_code event - 1) i PowerOn at.0 small ∙ ap (λ e. get_or (numbers e) i 0) at.1 ∙ get_or-map (λ c. c - 48) (row event) i 0 0 here)
    ∙ sym (get_or-map (λ c. status_of (c - 48)) (row event) i 0 d here)
