-- The exits of the functions that read a body, each as what the definition answers there.
use Rattle.std.proofs.Common.{◌≡◌, ℕ, ◌+◌, ◌*◌, List, [], ◌∷◌, length, get_or, Some, None, Ok, Option, Result, ap, ◌∙◌, arith}
use Rattle.std.specs.Option.{ok_or}
use Rattle.big_endian.specs.Numbers.{worth}
use Rattle.text.specs.declared.flaw.Flaw.TheVariants.{OutOfRange}
use Rattle.commands.specs.declared.command.EffectKind.{EffectKind}
use Rattle.commands.specs.declared.command.TimeKind.{TimeKind}
use Rattle.commands.specs.Codes.{effect_kind, time_kind, coded}
use Rattle.commands.specs.Frames.{and_then, opening_of}

-- what was read of a byte
read_some : {K E : Type 0} (o : Option K) (unknown : E) (k : K) → ◌≡◌ {A = Result K E} (Ok k) (ok_or o unknown) → Some k ≡ o
read_some None unknown k e = let z : ◌≡◌ {A = ℕ} 0 1 = cc in absurd (omega arith)
read_some (Some j) unknown k e = cc

pub opening_read : (code q : ℕ) (e : EffectKind) (t : TimeKind) (body : List ℕ) → length body ≡ 4 → Ok e ≡ coded effect_kind (get_or body 0 0) → Ok t ≡ coded time_kind (get_or body 1 0) →
    q ≡ get_or body 2 0 * 256 + get_or body 3 0 → Ok (record { effects = e; times = t; quota = q }) ≡ opening_of code body
opening_read code q e t [] long effects times quota = absurd (omega arith)
opening_read code q e t (a ∷ []) long effects times quota = absurd (omega arith)
opening_read code q e t (a ∷ b ∷ []) long effects times quota = absurd (omega arith)
opening_read code q e t (a ∷ b ∷ c ∷ []) long effects times quota = absurd (omega arith)
opening_read code q e t (a ∷ b ∷ c ∷ d ∷ []) long effects times quota =
    let worths : q ≡ worth (c ∷ d ∷ []) = omega arith in
    ap (λ n. Ok (record { effects = e; times = t; quota = n })) worths
    ∙ ap (λ o. and_then (ok_or o (OutOfRange code 4)) (λ u. Ok (record { effects = e; times = u; quota = worth (c ∷ d ∷ []) }))) (read_some (time_kind b) _ t times)
    ∙ ap (λ o. and_then (ok_or o (OutOfRange code 2)) (λ f. and_then (ok_or (time_kind b) (OutOfRange code 4)) (λ u. Ok (record { effects = f; times = u; quota = worth (c ∷ d ∷ []) })))) (read_some (effect_kind a) _ e effects)
opening_read code q e t (a ∷ b ∷ c ∷ d ∷ f ∷ body) long effects times quota = absurd (omega arith)
