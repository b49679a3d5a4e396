use Rattle.std.proofs.Common.{◌≡◌, false, pos, refl}
use lib.Ieee.{fin, binary32, binary64, of_bits, to_bits}
use Rattle.floats.specs.Convert.{convert}
use Rattle.floats.specs.Sqrt.{sqrt}

two : to_bits binary64 (sqrt binary64 (of_bits binary64 0x4000_0000_0000_0000)) ≡ 0x3ff6_a09e_667f_3bcd
unfolding to_bits sqrt of_bits
two = refl

least : to_bits binary64 (sqrt binary64 (of_bits binary64 1)) ≡ 0x1e60_0000_0000_0000
unfolding to_bits sqrt of_bits
least = refl

largest : to_bits binary64 (sqrt binary64 (of_bits binary64 0x7fef_ffff_ffff_ffff)) ≡ 0x5fef_ffff_ffff_ffff
unfolding to_bits sqrt of_bits
largest = refl

-- T10: the root of 25, narrowed
scale : convert binary32 (sqrt binary64 (fin false 25 (pos 0))) ≡ fin false 5 (pos 0)
unfolding convert sqrt
scale = refl
