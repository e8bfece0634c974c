-- `report::number::put_number` meets its contract: it writes as many digits as the number has.
-- Assumes nothing.
use mathlib.Core.Path.{◌≡◌, sym, ap, ◌∙◌}
use Prim.Native.Nat.{ℕ, ◌+◌}
use native.Mathlib.Omega.{arith}
use lib.ListN.{length}
use Rattle.octets.specs.Runs.{put_in}
use Rattle.report.specs.Decimal.{digits, decimal}
use Rattle.report.proofs.DigitLaws.{decimal_long}
use Rattle.report.proofs.number.put_number.Goals as goal

pub put_digits-requires : goal.put_digits-requires
put_digits-requires c =
    let long : c.places-k.result ≡ length (decimal c.args.n) = c.places-k.ensures ∙ sym (decimal_long c.args.n) in
    omega (arith, long)

pub overflow_add-result : goal.overflow_add-result
overflow_add-result c =
    let long : c.places-k.result ≡ length (decimal c.args.n) = c.places-k.ensures ∙ sym (decimal_long c.args.n) in
    omega (arith, long)

pub returns : goal.returns
returns c =
    let a = c.args in
    let long : c.places-k.result ≡ length (decimal a.n) = c.places-k.ensures ∙ sym (decimal_long a.n) in
    record {
      value = ap (λ (k : ℕ). a.at + k) long;
      out_after = c.put_digits.ensures ∙ ap (λ (k : ℕ). put_in a.out.now a.at (digits k a.n)) c.places-k.ensures;
    }
