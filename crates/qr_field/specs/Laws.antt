-- Generator polynomials as the standard prints them, and the error correction codewords of an example. Laws compare the
-- definitions with them.
use Rattle.std.specs.Prelude.{ℕ, List, [], ◌∷◌}

-- The numbers of error correction codewords that a block can have (ISO/IEC 18004:2015, 7.5.1)
abbrev pub lengths_in_use : List ℕ
lengths_in_use = 7 ∷ 10 ∷ 13 ∷ 15 ∷ 16 ∷ 17 ∷ 18 ∷ 20 ∷ 22 ∷ 24 ∷ 26 ∷ 28 ∷ 30 ∷ []

-- The generator polynomials, as the standard prints them, for each number of error correction codewords in
-- `lengths_in_use`. Each coefficient is a power of 2, and only its exponent is listed. The coefficient of the highest
-- power of x comes first (ISO/IEC 18004:2015, Annex A)
abbrev pub printed_exponents : List (List ℕ)
printed_exponents =
    (0 ∷ 87 ∷ 229 ∷ 146 ∷ 149 ∷ 238 ∷ 102 ∷ 21 ∷ []) ∷
    (0 ∷ 251 ∷ 67 ∷ 46 ∷ 61 ∷ 118 ∷ 70 ∷ 64 ∷ 94 ∷ 32 ∷ 45 ∷ []) ∷
    (0 ∷ 74 ∷ 152 ∷ 176 ∷ 100 ∷ 86 ∷ 100 ∷ 106 ∷ 104 ∷ 130 ∷ 218 ∷ 206 ∷ 140 ∷ 78 ∷ []) ∷
    (0 ∷ 8 ∷ 183 ∷ 61 ∷ 91 ∷ 202 ∷ 37 ∷ 51 ∷ 58 ∷ 58 ∷ 237 ∷ 140 ∷ 124 ∷ 5 ∷ 99 ∷ 105 ∷ []) ∷
    (0 ∷ 120 ∷ 104 ∷ 107 ∷ 109 ∷ 102 ∷ 161 ∷ 76 ∷ 3 ∷ 91 ∷ 191 ∷ 147 ∷ 169 ∷ 182 ∷ 194 ∷ 225 ∷ 120 ∷ []) ∷
    (0 ∷ 43 ∷ 139 ∷ 206 ∷ 78 ∷ 43 ∷ 239 ∷ 123 ∷ 206 ∷ 214 ∷ 147 ∷ 24 ∷ 99 ∷ 150 ∷ 39 ∷ 243 ∷ 163 ∷ 136 ∷ []) ∷
    (0 ∷ 215 ∷ 234 ∷ 158 ∷ 94 ∷ 184 ∷ 97 ∷ 118 ∷ 170 ∷ 79 ∷ 187 ∷ 152 ∷ 148 ∷ 252 ∷ 179 ∷ 5 ∷ 98 ∷ 96 ∷ 153 ∷ []) ∷
    (0 ∷ 17 ∷ 60 ∷ 79 ∷ 50 ∷ 61 ∷ 163 ∷ 26 ∷ 187 ∷ 202 ∷ 180 ∷ 221 ∷ 225 ∷ 83 ∷ 239 ∷ 156 ∷ 164 ∷ 212 ∷ 212 ∷ 188 ∷ 190 ∷ []) ∷
    (0 ∷ 210 ∷ 171 ∷ 247 ∷ 242 ∷ 93 ∷ 230 ∷ 14 ∷ 109 ∷ 221 ∷ 53 ∷ 200 ∷ 74 ∷ 8 ∷ 172 ∷ 98 ∷ 80 ∷ 219 ∷ 134 ∷ 160 ∷ 105 ∷ 165 ∷ 231 ∷ []) ∷
    (0 ∷ 229 ∷ 121 ∷ 135 ∷ 48 ∷ 211 ∷ 117 ∷ 251 ∷ 126 ∷ 159 ∷ 180 ∷ 169 ∷ 152 ∷ 192 ∷ 226 ∷ 228 ∷ 218 ∷ 111 ∷ 0 ∷ 117 ∷ 232 ∷ 87 ∷ 96 ∷ 227 ∷ 21 ∷ []) ∷
    (0 ∷ 173 ∷ 125 ∷ 158 ∷ 2 ∷ 103 ∷ 182 ∷ 118 ∷ 17 ∷ 145 ∷ 201 ∷ 111 ∷ 28 ∷ 165 ∷ 53 ∷ 161 ∷ 21 ∷ 245 ∷ 142 ∷ 13 ∷ 102 ∷ 48 ∷ 227 ∷ 153 ∷ 145 ∷ 218 ∷ 70 ∷ []) ∷
    (0 ∷ 168 ∷ 223 ∷ 200 ∷ 104 ∷ 224 ∷ 234 ∷ 108 ∷ 180 ∷ 110 ∷ 190 ∷ 195 ∷ 147 ∷ 205 ∷ 27 ∷ 232 ∷ 201 ∷ 21 ∷ 43 ∷ 245 ∷ 87 ∷ 42 ∷ 195 ∷ 212 ∷ 119 ∷ 242 ∷ 37 ∷ 9 ∷ 123 ∷ []) ∷
    (0 ∷ 41 ∷ 173 ∷ 145 ∷ 152 ∷ 216 ∷ 31 ∷ 179 ∷ 182 ∷ 50 ∷ 48 ∷ 110 ∷ 86 ∷ 239 ∷ 96 ∷ 222 ∷ 125 ∷ 42 ∷ 173 ∷ 226 ∷ 193 ∷ 224 ∷ 130 ∷ 156 ∷ 37 ∷ 251 ∷ 216 ∷ 238 ∷ 40 ∷ 192 ∷ 180 ∷ []) ∷ []

-- The data codewords of the input `01234567` at version 1 and level M [own]
abbrev pub worked_data : List ℕ
worked_data = 0x10 ∷ 0x20 ∷ 0x0C ∷ 0x56 ∷ 0x61 ∷ 0x80 ∷ 0xEC ∷ 0x11 ∷ 0xEC ∷ 0x11 ∷ 0xEC ∷ 0x11 ∷ 0xEC ∷ 0x11 ∷ 0xEC ∷ 0x11 ∷ []

-- The error correction codewords for `worked_data` [own]
abbrev pub worked_correction : List ℕ
worked_correction = 0xA5 ∷ 0x24 ∷ 0xD4 ∷ 0xC1 ∷ 0xED ∷ 0x36 ∷ 0xC7 ∷ 0x87 ∷ 0x2C ∷ 0x55 ∷ []
