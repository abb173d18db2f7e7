use Rattle.std.proofs.Common.{map, refl, sym, ap, ◌∙◌, rules}
use Rattle.std.proofs.lemmas.List.{get_or-map}
use Rattle.status.specs.Codes.{status_of}
use Rattle.status.specs.Packing.{digits}
use Rattle.status.proofs.Arrays.{made}
use Rattle.status.proofs.Digits.{digit_at}
use Rattle.status.proofs.kind.octal_statuses.Goals as goal

pub returns : goal.returns
returns c =
    let n = c.args.number in
    made (map status_of (digits 8 n)) c.from_fn.ensures.items refl
    (λ q i y d inside k. let digit = ap status_of (sym (digit_at 8 n i 0 inside)) ∙ sym (get_or-map status_of (digits 8 n) i 0 d inside) in search rules)
