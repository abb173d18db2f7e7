-- The cell is written where the next one lies.
use Rattle.std.proofs.Common.{◌≡◌, ℕ, ◌*◌, ◌≤◌, List, length, ap, ◌∙◌, arith, rules}
use Rattle.std.specs.Vec.{with_items}
use Rattle.std.proofs.lemmas.List.{with_items_is}
use Rattle.big_endian.specs.Numbers.{overwritten}
use Rattle.cells.specs.Layout.{cell_width, layout}
use Rattle.store.proofs.Granting.{claim_accepted, room_granted}
use Rattle.bases.specs.Images.{image_meaning}
use Rattle.bases.specs.Imaging.{length_cells_in, answer_put, meaning_put, bytes_put, laid_put, stays_laid}
use Rattle.bases.proofs.image.calls.ImageStore.put.Goals as goal

pub write_cell-requires : goal.write_cell-requires
write_cell-requires c =
    let image = c.args.self.now in
    let long = length_cells_in image.len image.bytes.items in
    let room = room_granted (image_meaning image) 1 (claim_accepted (image_meaning image) 1 c.in_ok-claim.ensures) in
    omega arith

pub invariant_of-self : goal.invariant_of-self
invariant_of-self c =
    let image = c.args.self.now in
    let long = length_cells_in image.len image.bytes.items in
    let bytes = image.bytes.items in
    let free = claim_accepted (image_meaning image) 1 c.in_ok-claim.ensures in
    let room = room_granted (image_meaning image) 1 free in
    let after = (with_items image.bytes c.write_cell.new.bytes).items in
    let wrote : after ≡ overwritten bytes (image.len * cell_width) (layout c.args.cell) =
    with_items_is image.bytes c.write_cell.new.bytes (omega arith)
    ∙ c.write_cell.ensures.value
    ∙ ap (λ (bs : List ℕ). overwritten bs (image.len * cell_width) (layout c.args.cell)) c.deref_mut.ensures.value in
    record {
      within = omega arith;
      room = omega arith;
      small = omega arith;
      laid = stays_laid image.len image.capacity bytes after c.args.cell free (omega arith) c.write_cell.ensures.back wrote image.laid;
    }

pub returns : goal.returns
returns c =
    let image = c.args.self.now in
    let cell = c.args.cell in
    let bytes = image.bytes.items in
    let free = claim_accepted (image_meaning image) 1 c.in_ok-claim.ensures in
    let after = (with_items image.bytes c.write_cell.new.bytes).items in
    let wrote : after ≡ overwritten bytes (image.len * cell_width) (layout cell) =
    with_items_is image.bytes c.write_cell.new.bytes (omega arith)
    ∙ c.write_cell.ensures.value
    ∙ ap (λ (bs : List ℕ). overwritten bs (image.len * cell_width) (layout cell)) c.deref_mut.ensures.value in
    let within : image.len * cell_width ≤ length bytes = omega arith in
    let back = c.write_cell.ensures.back in
    record {
      answer = answer_put image.len image.capacity bytes after cell free within back wrote;
      after = meaning_put image.len image.capacity bytes after cell free within back wrote;
      untouched = search rules;
      bytes = bytes_put image.len image.capacity bytes after cell free within back wrote;
      laid = laid_put image.len image.capacity bytes after cell free within back wrote;
    }
