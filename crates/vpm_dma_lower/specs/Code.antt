-- The code of each access. Its blocks stand from a number on and exit to one another, or to where it goes on.
use Rattle.std.specs.Prelude.{ℕ, ◌+◌, ◌*◌, ◌^◌, List, [], ◌∷◌, ◌++◌, false, negsuc}
use Rattle.q_lane.specs.declared.kinds.Scalar.{Scalar}
use Rattle.q_lane.specs.declared.kinds.Scalar.TheVariants.{Int}
use Rattle.qpu_encode.specs.declared.form.AddOp.TheVariants as add_op
use Rattle.qpu_encode.specs.declared.form.MulOp.TheVariants as mul_op
use Rattle.qpu_encode.specs.declared.form.Cond.TheVariants.{Always}
use Rattle.qpu_encode.specs.declared.form.BraCond.TheVariants.{AllZ, AllNz, AnyNz}
use Rattle.vop_ir.specs.declared.form.Op.TheVariants as op
use Rattle.vop_ir.specs.declared.form.Src.{Src}
use Rattle.vop_ir.specs.declared.form.Src.TheVariants as src
use Rattle.vop_ir.specs.declared.form.Dst.{Dst}
use Rattle.vop_ir.specs.declared.form.Dst.TheVariants as dst
use Rattle.vop_ir.specs.declared.form.Turn.TheVariants as turn
use Rattle.vop_ir.specs.declared.form.Exit.{Exit}
use Rattle.vop_ir.specs.declared.form.Exit.TheVariants.{Jump, Branch, Stop}
use Rattle.vop_ir.specs.declared.form.Vop.{Vop}
use Rattle.vop_ir.specs.Operations.{plain, flagged, where_zero, where_set, copy, small}
use Rattle.vop_ir.specs.Runs.{Block, vops}
pub use Rattle.vpm_dma_lower.specs.declared.names.Names.{Names}
use Rattle.vpm_dma_lower.specs.Elements.{size_src, take_op, take_by, load_base, store_base}

-- ---- operations

abbrev pub lock : Vop
lock = plain op.Lock dst.Nowhere (small 0) (small 0)

abbrev pub unlock : Vop
unlock = copy dst.Unlock (small 0)

abbrev pub wait_load : Vop
wait_load = plain op.WaitLoad dst.Nowhere (small 0) (small 0)

abbrev pub wait_store : Vop
wait_store = plain op.WaitStore dst.Nowhere (small 0) (small 0)

abbrev pub idle : Vop
idle = plain (op.Add add_op.Nop) dst.Nowhere (small 0) (small 0)

-- the element of a in lane 0 - r5, in lane 0
abbrev pub turned : Dst → Src → Vop
turned d a = record { op = op.Mul mul_op.V8Min; cond = Always; flags = false; dst = d; a = a; b = a; turn = turn.ByFive; unpack = 0 }

-- lane l gets what lane l - n has
abbrev pub turned_by : Dst → Src → ℕ → Vop
turned_by d a n = record { op = op.Mul mul_op.V8Min; cond = Always; flags = false; dst = d; a = a; b = a; turn = turn.By n; unpack = 0 }

-- ---- one section for each lane that is on

-- Z stands in lane `lane` alone
abbrev pub find : Names → Dst → Vop
find r d = flagged (op.Add add_op.Sub) d src.Elem (src.Reg r.lane)

-- Z stands in a lane if the mask's word of lane `lane` is 0, and else in none
abbrev pub asks : Names → List Vop
asks r =
    find r (dst.Reg r.test)
    ∷ where_zero (op.Add add_op.Or) (dst.Reg r.test) (src.Reg r.mask) (src.Reg r.mask)
    ∷ flagged (op.Add add_op.Or) dst.Nowhere (src.Reg r.test) (src.Reg r.test)
    ∷ []

-- the address of lane `lane` in lane 0
abbrev pub brings : Names → List Vop
brings r =
    plain (op.Add add_op.Sub) dst.Five (small 0) (src.Reg r.lane)
    ∷ turned (dst.Reg r.at) (src.Reg r.addr)
    ∷ []

-- one element from the address in lane `lane` to the same lane of the value; 101A00: one row is to be read, row 0
abbrev pub load_section : Scalar → Names → List Vop
load_section t r =
    plain (op.Add add_op.Sub) dst.Five (small 0) (src.Reg r.lane)
    ∷ turned (dst.Reg r.at) (src.Reg r.addr)
    ∷ lock
    ∷ plain (op.Add add_op.Add) dst.ReadSet (src.Word (load_base t + 2 ^ 20)) (src.Reg r.lane)
    ∷ copy dst.LoadAddr (src.Reg r.at)
    ∷ wait_load
    ∷ copy dst.ReadSet (src.Word 1055232)
    ∷ idle
    ∷ idle
    ∷ find r dst.Nowhere
    ∷ where_zero (op.Add (take_op t)) (dst.Reg r.value) src.Vpm (take_by t)
    ∷ unlock
    ∷ []

-- one element from a lane of the value to the address in that lane; 1A00: rows are written from row 0 on
abbrev pub store_section : Scalar → Names → List Vop
store_section t r =
    plain (op.Add add_op.Sub) dst.Five (small 0) (src.Reg r.lane)
    ∷ turned (dst.Reg r.at) (src.Reg r.addr)
    ∷ plain (op.Add add_op.Shl) (dst.Reg r.test) (src.Reg r.lane) (small 3)
    ∷ lock
    ∷ copy dst.WriteSet (src.Word 6656)
    ∷ copy dst.Vpm (src.Reg r.value)
    ∷ plain (op.Add add_op.Add) dst.WriteSet (src.Word (store_base t + 2 ^ 16)) (src.Reg r.test)
    ∷ copy dst.StoreAddr (src.Reg r.at)
    ∷ wait_store
    ∷ unlock
    ∷ []

-- the next lane; Z stands everywhere after the last
abbrev pub steps_on : Names → List Vop
steps_on r =
    plain (op.Add add_op.Add) (dst.Reg r.lane) (src.Reg r.lane) (small 1)
    ∷ flagged (op.Add add_op.Add) dst.Nowhere (src.Reg r.lane) (src.Small (negsuc 15))
    ∷ []

abbrev pub lane_by_lane : ℕ → ℕ → Names → List Vop → List (Block vops)
lane_by_lane e out r section =
    record { ops = copy (dst.Reg r.lane) (small 0) ∷ []; exit = Jump (e + 1) }
    ∷ record { ops = asks r; exit = Branch AllNz (e + 2) (e + 3) }
    ∷ record { ops = section; exit = Jump (e + 3) }
    ∷ record { ops = steps_on r; exit = Branch AnyNz (e + 1) out }
    ∷ []

-- ---- one transfer for all lanes that are on

-- Z stands where the mask is 0
abbrev pub masks : Names → Vop
masks r = flagged (op.Add add_op.Or) dst.Nowhere (src.Reg r.mask) (src.Reg r.mask)

-- lane: 1 where the mask is on. test: 0 where the lane before is on and its address is one element less, where the mask is off, and in lane 0
abbrev pub compares : Scalar → Names → List Vop
compares t r =
    masks r
    ∷ copy (dst.Reg r.lane) (small 0)
    ∷ where_set (op.Add add_op.Or) (dst.Reg r.lane) (small 1) (small 1)
    ∷ turned_by (dst.Reg r.at) (src.Reg r.lane) 1
    ∷ plain (op.Add add_op.Sub) (dst.Reg r.at) (small 1) (src.Reg r.at)
    ∷ turned_by (dst.Reg r.test) (src.Reg r.addr) 1
    ∷ plain (op.Add add_op.Sub) (dst.Reg r.test) (src.Reg r.addr) (src.Reg r.test)
    ∷ plain (op.Add add_op.Sub) (dst.Reg r.test) (src.Reg r.test) (size_src t)
    ∷ plain (op.Add add_op.Or) (dst.Reg r.test) (src.Reg r.test) (src.Reg r.at)
    ∷ where_zero (op.Add add_op.Or) (dst.Reg r.test) (small 0) (small 0)
    ∷ flagged (op.Add add_op.Or) dst.Nowhere src.Elem src.Elem
    ∷ where_zero (op.Add add_op.Or) (dst.Reg r.test) (small 0) (small 0)
    ∷ flagged (op.Add add_op.Or) dst.Nowhere (src.Reg r.test) (src.Reg r.test)
    ∷ []

-- the sum over all lanes, in each lane
abbrev pub sums : Names → List Vop
sums r =
    turned_by (dst.Reg r.at) (src.Reg r.lane) 8
    ∷ plain (op.Add add_op.Add) (dst.Reg r.lane) (src.Reg r.lane) (src.Reg r.at)
    ∷ turned_by (dst.Reg r.at) (src.Reg r.lane) 4
    ∷ plain (op.Add add_op.Add) (dst.Reg r.lane) (src.Reg r.lane) (src.Reg r.at)
    ∷ turned_by (dst.Reg r.at) (src.Reg r.lane) 2
    ∷ plain (op.Add add_op.Add) (dst.Reg r.lane) (src.Reg r.lane) (src.Reg r.at)
    ∷ turned_by (dst.Reg r.at) (src.Reg r.lane) 1
    ∷ plain (op.Add add_op.Add) (dst.Reg r.lane) (src.Reg r.lane) (src.Reg r.at)
    ∷ []

-- at: m modulo 16 from bit 20 on, the length of a load. A shift by -4 is one by 28
abbrev pub load_length : Names → List Vop
load_length r =
    plain (op.Add add_op.Shl) (dst.Reg r.at) (src.Reg r.lane) (src.Small (negsuc 3))
    ∷ plain (op.Add add_op.Shr) (dst.Reg r.at) (src.Reg r.at) (small 8)
    ∷ []

-- at: m from bit 16 on, the depth of a store. A shift by -16 is one by 16
abbrev pub store_length : Names → List Vop
store_length r = plain (op.Add add_op.Shl) (dst.Reg r.at) (src.Reg r.lane) (src.Small (negsuc 15)) ∷ []

-- the elements of lanes 0 to m - 1 from lane 0's address on
abbrev pub joined_load : Scalar → Names → List Vop
joined_load t r =
    lock
    ∷ plain (op.Add add_op.Add) dst.ReadSet (src.Word (load_base t)) (src.Reg r.at)
    ∷ copy dst.LoadAddr (src.Reg r.addr)
    ∷ wait_load
    ∷ copy dst.ReadSet (src.Word 1055232)
    ∷ idle
    ∷ idle
    ∷ masks r
    ∷ where_set (op.Add (take_op t)) (dst.Reg r.value) src.Vpm (take_by t)
    ∷ unlock
    ∷ []

abbrev pub joined_store : Scalar → Names → List Vop
joined_store t r =
    lock
    ∷ copy dst.WriteSet (src.Word 6656)
    ∷ copy dst.Vpm (src.Reg r.value)
    ∷ plain (op.Add add_op.Add) dst.WriteSet (src.Word (store_base t)) (src.Reg r.at)
    ∷ copy dst.StoreAddr (src.Reg r.addr)
    ∷ wait_store
    ∷ unlock
    ∷ []

-- ---- an access: some lane on? one transfer for all? else lane by lane

abbrev pub core : ℕ → ℕ → Scalar → Names → List Vop → List Vop → List Vop → List (Block vops)
core e out t r first joined single =
    record { ops = first ++ masks r ∷ []; exit = Branch AnyNz (e + 1) out }
    ∷ record { ops = compares t r; exit = Branch AllZ (e + 2) (e + 3) }
    ∷ record { ops = sums r ++ joined; exit = Jump out }
    ∷ lane_by_lane (e + 3) out r single

abbrev pub load_core : ℕ → ℕ → Scalar → Names → List Vop → List (Block vops)
load_core e out t r first = core e out t r first (load_length r ++ joined_load t r) (load_section t r)

abbrev pub store_core : ℕ → ℕ → Scalar → Names → List Vop → List (Block vops)
store_core e out t r first = core e out t r first (store_length r ++ joined_store t r) (store_section t r)

-- the own registers of an access stand above the address of the scratch
abbrev pub own : ℕ → Names
own s = record { addr = s + 1; value = s + 2; mask = s + 3; lane = s + 4; test = s + 5; at = s + 6 }

-- ---- the five statements, from block e on; `vals` is the number of values, and of the register with the scratch's address

-- copies of the values that an access names
abbrev pub brings_in : ℕ → ℕ → ℕ → ℕ → List Vop
brings_in vals addr value mask =
    copy (dst.Reg (vals + 1)) (src.Reg addr) ∷ copy (dst.Reg (vals + 2)) (src.Reg value) ∷ copy (dst.Reg (vals + 3)) (src.Reg mask) ∷ []

-- the result goes back to its value
abbrev pub brings_back : ℕ → ℕ → ℕ → Block vops
brings_back vals d out = record { ops = copy (dst.Reg d) (src.Reg (vals + 2)) ∷ []; exit = Jump out }

abbrev pub load_blocks : ℕ → ℕ → Scalar → ℕ → ℕ → ℕ → List (Block vops)
load_blocks e vals t d addr mask = load_core e (e + 7) t (own vals) (brings_in vals addr d mask) ++ brings_back vals d (e + 8) ∷ []

abbrev pub store_blocks : ℕ → ℕ → Scalar → ℕ → ℕ → ℕ → List (Block vops)
store_blocks e vals t addr value mask = store_core e (e + 7) t (own vals) (brings_in vals addr value mask)

-- the address of a lane's word of element `index` of an array that begins at row `first`
abbrev pub finds_element : ℕ → ℕ → ℕ → ℕ → ℕ → List Vop
finds_element vals first index value mask =
    plain (op.Add add_op.Shl) (dst.Reg (vals + 1)) src.Elem (small 2)
    ∷ plain (op.Add add_op.Add) (dst.Reg (vals + 1)) (src.Reg (vals + 1)) (src.Reg vals)
    ∷ plain (op.Add add_op.Add) (dst.Reg (vals + 1)) (src.Reg (vals + 1)) (src.Word (64 * first))
    ∷ plain (op.Add add_op.Shl) (dst.Reg (vals + 2)) (src.Reg index) (small 6)
    ∷ plain (op.Add add_op.Add) (dst.Reg (vals + 1)) (src.Reg (vals + 1)) (src.Reg (vals + 2))
    ∷ copy (dst.Reg (vals + 2)) (src.Reg value)
    ∷ copy (dst.Reg (vals + 3)) (src.Reg mask)
    ∷ []

abbrev pub get_blocks : ℕ → ℕ → ℕ → ℕ → ℕ → ℕ → List (Block vops)
get_blocks e vals first d index mask = load_core e (e + 7) Int (own vals) (finds_element vals first index d mask) ++ brings_back vals d (e + 8) ∷ []

abbrev pub put_blocks : ℕ → ℕ → ℕ → ℕ → ℕ → ℕ → List (Block vops)
put_blocks e vals first index value mask = store_core e (e + 7) Int (own vals) (finds_element vals first index value mask)

-- zero is stored row by row; register vals + 7 counts the rows. Z is set in all lanes where none is left
abbrev pub clear_first : ℕ → ℕ → ℕ → ℕ → List Vop
clear_first vals first len mask =
    plain (op.Add add_op.Shl) (dst.Reg (vals + 1)) src.Elem (small 2)
    ∷ plain (op.Add add_op.Add) (dst.Reg (vals + 1)) (src.Reg (vals + 1)) (src.Reg vals)
    ∷ plain (op.Add add_op.Add) (dst.Reg (vals + 1)) (src.Reg (vals + 1)) (src.Word (64 * first))
    ∷ copy (dst.Reg (vals + 2)) (small 0)
    ∷ copy (dst.Reg (vals + 3)) (src.Reg mask)
    ∷ copy (dst.Reg (vals + 7)) (small 0)
    ∷ flagged (op.Add add_op.Sub) dst.Nowhere (src.Reg (vals + 7)) (src.Word len)
    ∷ []

abbrev pub clear_next : ℕ → ℕ → List Vop
clear_next vals len =
    plain (op.Add add_op.Add) (dst.Reg (vals + 1)) (src.Reg (vals + 1)) (src.Word 64)
    ∷ plain (op.Add add_op.Add) (dst.Reg (vals + 7)) (src.Reg (vals + 7)) (small 1)
    ∷ flagged (op.Add add_op.Sub) dst.Nowhere (src.Reg (vals + 7)) (src.Word len)
    ∷ []

abbrev pub clear_blocks : ℕ → ℕ → ℕ → ℕ → ℕ → List (Block vops)
clear_blocks e vals first len mask =
    record { ops = clear_first vals first len mask; exit = Branch AnyNz (e + 1) (e + 9) }
    ∷ store_core (e + 1) (e + 8) Int (own vals) []
    ++ record { ops = clear_next vals len; exit = Branch AnyNz (e + 1) (e + 9) } ∷ []

-- ---- the same code from another block on

abbrev pub shifted_exit : ℕ → Exit → Exit
shifted_exit e (Jump c) = Jump (e + c)
shifted_exit e (Branch k c d) = Branch k (e + c) (e + d)
shifted_exit e Stop = Stop

abbrev pub shifted : ℕ → Block vops → Block vops
shifted e b = record { ops = b.ops; exit = shifted_exit e b.exit }
