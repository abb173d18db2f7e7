use Rattle.payloads.specs.Masking.{too_high, short_at_0, short_at_1, short_at_2, short_at_3, settings_whole}
use Rattle.payloads.proofs.setups.settings_in.Goals as goal

pub returns-then-mask-gt15 : goal.returns-then-mask-gt15
returns-then-mask-gt15 c = too_high c.args.mask c.args.bytes.now c.if-mask-gt15.true

pub returns-in_err-batch : goal.returns-in_err-batch
returns-in_err-batch c = let none = short_at_0 c.args.mask c.args.bytes.now c.if-mask-gt15.false c.in_err-batch.ensures in cc

pub returns-in_err-nozzle : goal.returns-in_err-nozzle
returns-in_err-nozzle c =
    let none = short_at_1 c.args.mask c.args.bytes.now c.if-mask-gt15.false c.in_ok-batch.rest.now c.in_ok-batch.ensures.2 c.in_err-nozzle.ensures in cc

pub returns-in_err-plate : goal.returns-in_err-plate
returns-in_err-plate c =
    let none = short_at_2 c.args.mask c.args.bytes.now c.if-mask-gt15.false c.in_ok-batch.rest.now c.in_ok-batch.ensures.2 c.in_ok-nozzle.rest.now c.in_ok-nozzle.ensures.2
    c.in_err-plate.ensures in cc

pub returns-in_err-profile : goal.returns-in_err-profile
returns-in_err-profile c =
    let none = short_at_3 c.args.mask c.args.bytes.now c.if-mask-gt15.false c.in_ok-batch.rest.now c.in_ok-batch.ensures.2 c.in_ok-nozzle.rest.now c.in_ok-nozzle.ensures.2
    c.in_ok-plate.rest.now c.in_ok-plate.ensures.2 c.in_err-profile.ensures in cc

pub returns : goal.returns
returns c =
    settings_whole c.args.mask c.args.bytes.now c.in_ok-batch.rest.now c.in_ok-nozzle.rest.now c.in_ok-plate.rest.now _
    c.in_ok-batch.batch c.in_ok-nozzle.nozzle c.in_ok-plate.plate c.in_ok-profile.profile c.from.result c.if-mask-gt15.false
    c.in_ok-batch.ensures c.in_ok-nozzle.ensures c.in_ok-plate.ensures c.in_ok-profile.ensures c.from.ensures
