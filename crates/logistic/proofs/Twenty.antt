-- A product by 20 is no NaN and keeps the order. Assumes nothing.
use Rattle.std.proofs.Common.{◌≡◌, ℕ, ◌+◌, ◌*◌, ◌≤◌, Bool, true, false, T, ℤ, pos, refl, mul-one, mul_right_comm, arith}
use lib.Ieee.{Float, nan, inf, fin, Format, up, down, round, mul, le, is_nan}
use lib.Ieee.Fits.{down_pos}
use Rattle.floats.proofs.Order.{plus, less, plus_mul, less_mul, fin_le, lowest, highest, not_nan}
use Rattle.floats.proofs.Grid.{round_is_number}
use Rattle.floats.proofs.Monotone.{signed_mono}

abbrev pub twenty : Float
twenty = fin false 5 (pos 2)

pub times_number : (f : Format) (x : Float) → is_nan x ≡ false → is_nan (mul f x twenty) ≡ false
unfolding mul is_nan
times_number f nan p = p
times_number f (inf true) p = refl
times_number f (inf false) p = refl
times_number f (fin true m e) p = round_is_number f true (m * up e * 20) (down e * 1)
times_number f (fin false m e) p = round_is_number f false (m * up e * 20) (down e * 1)

times_fin : (f : Format) (s : Bool) (m : ℕ) (e : ℤ) → mul f (fin s m e) twenty ≡ round f s (m * up e * 20) (down e)
unfolding mul
times_fin f true m e = rw (mul-one (down e))
times_fin f false m e = rw (mul-one (down e))

scaled : (s : Bool) (x D : ℕ) (t : Bool) (y D' : ℕ) → plus s x * D' + less t y * D ≤ plus t y * D + less s x * D'
    → plus s (x * 20) * D' + less t (y * 20) * D ≤ plus t (y * 20) * D + less s (x * 20) * D'
scaled s x D t y D' h =
    simp (plus_mul, less_mul)
    (omega (arith, mul_right_comm (plus s x) 20 D', mul_right_comm (less t y) 20 D, mul_right_comm (plus t y) 20 D, mul_right_comm (less s x) 20 D'))

pub times_rising : (f : Format) (x y : Float) → T (le x y) → T (le (mul f x twenty) (mul f y twenty))
unfolding mul
times_rising f nan y h = absurd (unfold le in h)
times_rising f (inf true) y h = lowest (mul f y twenty) (times_number f y (not_nan (inf true) y h).1)
times_rising f (inf false) nan h = absurd (unfold le in h)
times_rising f (inf false) (inf true) h = absurd (unfold le in h)
times_rising f (inf false) (inf false) h = unfold le in tt
times_rising f (inf false) (fin t n d) h = absurd (unfold le in h)
times_rising f (fin s m e) nan h = absurd (unfold le in h)
times_rising f (fin s m e) (inf true) h = absurd (unfold le in h)
times_rising f (fin s m e) (inf false) h = highest (mul f (fin s m e) twenty) (times_number f (fin s m e) (not_nan (fin s m e) (inf false) h).0)
times_rising f (fin s m e) (fin t n d) h =
    rw (times_fin f s m e, times_fin f t n d)
    (signed_mono f s (m * up e * 20) (down e) t (n * up d * 20) (down d) (down_pos e) (down_pos d)
    (scaled s (m * up e) (down e) t (n * up d) (down d) (fin_le s m e t n d h)))
