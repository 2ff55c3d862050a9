-- The recipes of the built-in functions are right.
use Rattle.std.proofs.Common.{refl}
use Rattle.q_lane.specs.declared.kinds.Scalar.{Scalar}
use Rattle.q_lane.specs.declared.kinds.Scalar.TheVariants.{Char, Uchar, Short, Ushort, Int, Uint}
use Rattle.q_functions.specs.declared.functions.NumberFunction.{NumberFunction}
use Rattle.q_functions.specs.declared.functions.NumberFunction.TheVariants.{Min, Max, Clamp, Abs, AbsDiff, Mul24, MulHi, Rotate, Clz, Popcount, AddSat, SubSat}
use Rattle.builtin_lower.proofs.Products.{mul24_char, mul24_short, mul24_int, mul_hi_char, mul_hi_short}
use Rattle.builtin_lower.proofs.Functions.{Right, min_right, max_right, clamp_right, mul_hi_int, mul_hi_uint, abs_diff_plain}
use Rattle.builtin_lower.proofs.More.{abs_diff_uint, abs_right, clz_right, popcount_right}
use Rattle.builtin_lower.proofs.Turns.{rotate_right, mul24_uchar, mul24_ushort, mul24_uint}
use Rattle.builtin_lower.proofs.Saturates.{add_sat_char, add_sat_uchar, add_sat_short, add_sat_ushort, add_sat_uint, sub_sat_uint, sub_sat_char, sub_sat_uchar, sub_sat_short, sub_sat_ushort}
use Rattle.builtin_lower.proofs.Whole.{add_sat_int, sub_sat_int}
use Rattle.builtin_lower.proofs.Halves.{mul_hi_uchar, mul_hi_ushort}

pub function_right : (f : NumberFunction) (t : Scalar) → Right f t
function_right Min t = min_right t
function_right Max t = max_right t
function_right Clamp t = clamp_right t
function_right MulHi Int = mul_hi_int
function_right MulHi Uint = mul_hi_uint
function_right AbsDiff Char = λ w l x y a b c e f g. abs_diff_plain w l x y Char a b refl e f
function_right AbsDiff Uchar = λ w l x y a b c e f g. abs_diff_plain w l x y Uchar a b refl e f
function_right AbsDiff Short = λ w l x y a b c e f g. abs_diff_plain w l x y Short a b refl e f
function_right AbsDiff Ushort = λ w l x y a b c e f g. abs_diff_plain w l x y Ushort a b refl e f
function_right AbsDiff Int = λ w l x y a b c e f g. abs_diff_plain w l x y Int a b refl e f
function_right AbsDiff Uint = abs_diff_uint
function_right Abs t = abs_right t
function_right Clz t = clz_right t
function_right Popcount t = popcount_right t
function_right Rotate t = rotate_right t
function_right Mul24 Uchar = mul24_uchar
function_right Mul24 Ushort = mul24_ushort
function_right Mul24 Uint = mul24_uint
function_right AddSat Char = add_sat_char
function_right AddSat Uchar = add_sat_uchar
function_right AddSat Short = add_sat_short
function_right AddSat Ushort = add_sat_ushort
function_right AddSat Uint = add_sat_uint
function_right SubSat Uint = sub_sat_uint
function_right SubSat Char = sub_sat_char
function_right SubSat Uchar = sub_sat_uchar
function_right SubSat Short = sub_sat_short
function_right SubSat Ushort = sub_sat_ushort
function_right AddSat Int = add_sat_int
function_right MulHi Uchar = mul_hi_uchar
function_right MulHi Ushort = mul_hi_ushort
function_right SubSat Int = sub_sat_int
function_right Mul24 Char = mul24_char
function_right Mul24 Short = mul24_short
function_right Mul24 Int = mul24_int
function_right MulHi Char = mul_hi_char
function_right MulHi Short = mul_hi_short
