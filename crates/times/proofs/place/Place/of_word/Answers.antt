use Rattle.std.proofs.Common.{◌≡◌, refl, ◌∙◌, arith, w32, to_z, of_z}
use borrow.Author.Differences.{ints}
use Rattle.times.specs.Words.{place_is}
use Rattle.times.proofs.place.Place.of_word.Goals as goal

pub returns : goal.returns
returns c =
    let cast : to_z w32 (of_z w32 c.cast_signed-layer.result) ≡ c.cast_signed-layer.result = omega (arith, ints) in
    place_is c.args.word _ (omega arith) refl (cast ∙ c.cast_signed-layer.ensures)
