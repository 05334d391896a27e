-- Text as a list of bytes in ASCII, and whole numbers in it, in base ten. Definitions only; the laws are in DecimalLaws.
use Rattle.std.specs.Prelude.{ℕ, zero, suc, ◌+◌, ◌*◌, ◌-◌, ◌/◌, ◌%◌, Bool, cond, List, [], ◌∷◌, ◌++◌, ltb, ℤ, pos, nat_abs}
use Prim.Native.Char.{code}
use Prim.Native.String.{String, [] as no-letter, ◌∷◌ as ◌then◌}
use Rattle.std.specs.Int.Signed.{lt_z}

-- the bytes of a word, as `ascii "point"`
abbrev pub ascii : String → List ℕ
ascii no-letter = []
ascii (letter then rest) = code letter ∷ ascii rest

abbrev pub newline : ℕ
newline = 10

abbrev pub blank : ℕ
blank = 32

abbrev pub minus : ℕ
minus = 45

abbrev pub zero_digit : ℕ
zero_digit = 48

-- ---- numbers

-- the digits of n in base ten, where k is above n: k only bounds the recursion
unfoldable pub digits_to : ℕ → ℕ → List ℕ
digits_to zero n = []
digits_to (suc k) n = cond (ltb n 10) [] (digits_to k (n / 10)) ++ ((zero_digit + n % 10) ∷ [])

-- the fewest digits of n; of 0, the digit 0
unfoldable pub digits : ℕ → List ℕ
digits n = digits_to (suc n) n

-- the number that digits say, read from the left, n being what was read before
abbrev pub value : ℕ → List ℕ → ℕ
value n [] = n
value n (b ∷ l) = value (n * 10 + (b - zero_digit)) l

-- a number of this size, with a minus where it is below 0
abbrev pub sized : Bool → ℕ → List ℕ
sized below n = cond below (minus ∷ digits n) (digits n)

abbrev pub signed : ℤ → List ℕ
signed z = sized (lt_z z (pos 0)) (nat_abs z)

-- a number behind a blank
abbrev pub field : ℤ → List ℕ
field z = blank ∷ signed z

unfoldable pub numbers : List ℤ → List ℕ
numbers [] = []
numbers (z ∷ zs) = field z ++ numbers zs

-- ---- how long numbers can be (`signed-short`, `count-short`, `numbers-short`)

-- an i64 with its minus, and a u64
abbrev pub number_most : ℕ
number_most = 20

-- with the blank before it
abbrev pub field_most : ℕ
field_most = number_most + 1
