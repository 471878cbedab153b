-- Each digit is read, and each `_` passed over.
use Rattle.std.proofs.Common.{◌≡◌, ◌+◌, ◌*◌, None, not, ◌==◌, drop, filter, get_or, arith, sym, ap, ◌∙◌}
use Rattle.std.specs.Char.{digit_value}
use Rattle.std.specs.Str.Parse.{digits_value_after}
use Rattle.py_tokens.specs.Numerals.{fitting}
use Rattle.py_tokens.proofs.NumeralLemmas.{reads_digit, passes_mark, stays_wide, fits, does_fit, ends_number}
use Rattle.py_tokens.proofs.numeral.number.Goals as goal
use Rattle.py_tokens.proofs.numeral.number.Goals.{then-byte-ne95+in_ok-number, else-byte-ne95}

pub loop-byte-preserved : goal.loop-byte-preserved
loop-byte-preserved c =
    let at = c.loop-byte in
    let ds = c.args.digits.now in
    elim c.if-byte-ne95.branch [
      | then-byte-ne95+in_ok-number w ↦ (
          let x = get_or ds at.byte-index 0 in
          let fit = fits (at.number * c.args.radix + digit_value x) w.in_ok-number.number (sym w.in_ok-number.ensures) in
          record {
            whole = at.invariant.whole ∙ reads_digit c.args.radix at.number at.byte-index ds c.loop-byte-test.true w.if-byte-ne95.true ∙ ap (λ n. digits_value_after c.args.radix n (filter (λ b. not (b == 95)) (drop (at.byte-index + 1) ds))) (sym fit.0 ∙ sym w.number-is);
            fits = omega (arith, fit.1, w.number-is);
          })
      | else-byte-ne95 w ↦ record {
        whole = at.invariant.whole ∙ passes_mark c.args.radix at.number at.byte-index ds c.loop-byte-test.true w.if-byte-ne95.false ∙ ap (λ n. digits_value_after c.args.radix n (filter (λ b. not (b == 95)) (drop (at.byte-index + 1) ds))) (sym w.number-is);
        fits = omega (arith, at.invariant.fits, w.number-is);
      }
    ]

pub returns-in_err-number : goal.returns-in_err-number
returns-in_err-number c =
    let at = c.loop-byte in
    let ds = c.args.digits.now in
    let x = get_or ds at.byte-index 0 in
    let wide : fitting (at.number * c.args.radix + digit_value x) ≡ None = sym c.in_err-number.ensures in
    c.from_residual.ensures ∙ sym (ap fitting (at.invariant.whole ∙ reads_digit c.args.radix at.number at.byte-index ds c.loop-byte-test.true c.if-byte-ne95.true) ∙ stays_wide c.args.radix at.number x (filter (λ b. not (b == 95)) (drop (at.byte-index + 1) ds)) wide)

pub returns : goal.returns
returns c =
    let at = c.loop-byte in
    sym (ap fitting (at.invariant.whole ∙ ends_number c.args.radix at.number at.byte-index c.args.digits.now c.loop-byte-test.false) ∙ does_fit at.number at.invariant.fits)
