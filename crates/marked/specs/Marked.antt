-- Document 01, the marked cases (*): one table, one statement, by computation on the rules: loading, the judge and the plain
-- reading.
use Rattle.std.specs.Prelude.{List, [], ◌∷◌, ◌++◌, ℕ, replicate}
use Rattle.packet_rules.specs.Judge.{refusal_of}
use Rattle.image_rules.specs.Records.{records_of}
use Rattle.image_load.specs.Image.{load_of}
use Rattle.history.specs.Plain.{Event, packet, tick, fault, Reply, replies, bare_reply}

-- ---- configuration C and its packets

-- configuration C with another own base, low byte first
abbrev pub based : ℕ → ℕ → List ℕ
based low high =
    (6 ∷ 0 ∷ 1 ∷ 0 ∷ 1 ∷ 0 ∷ 2 ∷ 0 ∷ low ∷ high ∷ [])
    ++ (3 ∷ 0 ∷ 2 ∷ 0 ∷ 10 ∷ 0 ∷ 1 ∷ [])
    ++ (3 ∷ 0 ∷ 2 ∷ 0 ∷ 20 ∷ 0 ∷ 2 ∷ [])
    ++ (2 ∷ 0 ∷ 3 ∷ 0 ∷ 20 ∷ 0 ∷ [])
    ++ (8 ∷ 0 ∷ 4 ∷ 0 ∷ 7 ∷ 0 ∷ 10 ∷ 0 ∷ 1 ∷ 1 ∷ 1 ∷ 170 ∷ [])

abbrev pub C : List ℕ
C = based 100 0

-- G, and G with another last byte
abbrev pub ending : ℕ → List ℕ
ending last = 24 ∷ 1 ∷ 192 ∷ 0 ∷ 0 ∷ 3 ∷ 0 ∷ 206 ∷ 0 ∷ last ∷ []

abbrev pub G : List ℕ
G = ending 20

-- an arm command: its checksum, its timeout
abbrev pub arm : ℕ → ℕ → List ℕ
arm checksum timeout = 24 ∷ 1 ∷ 192 ∷ 0 ∷ 0 ∷ 4 ∷ 0 ∷ checksum ∷ 0 ∷ 100 ∷ timeout ∷ []

abbrev pub ARM : List ℕ
ARM = arm 187 2

abbrev pub PAD : List ℕ
PAD = 24 ∷ 1 ∷ 192 ∷ 0 ∷ 0 ∷ 5 ∷ 1 ∷ 210 ∷ 0 ∷ 10 ∷ 5 ∷ 0 ∷ []

-- ---- what a case asks of the rules, and the numbers that they say

pub data Asked : Type 0 where
  -- the load's answer and offset
  loading : List ℕ → Asked
  -- the judge's refusal
  judging : List ℕ → Asked
  -- under C, the bytes that the last event of a list sends on
  sending : List Event → Asked
  -- under C, the answer to the last event of a list
  answering : List Event → Asked

abbrev last_reply : Reply → List Reply → Reply
last_reply x [] = x
last_reply x (y ∷ ys) = last_reply y ys

abbrev nothing : Reply
nothing = bare_reply 0

abbrev pub said : Asked → List ℕ
said (loading image) = (load_of image).answer ∷ (load_of image).offset ∷ []
said (judging p) = refusal_of p ∷ []
said (sending es) = (last_reply nothing (replies (records_of C) [] es)).bytes
said (answering es) = (last_reply nothing (replies (records_of C) [] es)).answer ∷ []

pub record Case : Type 0 where
  pub asked : Asked
  pub wanted : List ℕ

abbrev case : Asked → List ℕ → Case
case a w = record { asked = a; wanted = w }

-- ---- the table

abbrev pub table : List Case
table =
    -- C loads; an empty image gives 5
    case (loading C) (0 ∷ 0 ∷ [])
    ∷ case (loading []) (5 ∷ 0 ∷ [])
    -- G, ARM and PAD are accepted; G with its last byte 15 (hex) gives 27
    ∷ case (judging G) (0 ∷ [])
    ∷ case (judging ARM) (0 ∷ [])
    ∷ case (judging PAD) (0 ∷ [])
    ∷ case (judging (ending 21)) (27 ∷ [])
    -- G less its last byte gives 23; its first five bytes give 22
    ∷ case (judging (24 ∷ 1 ∷ 192 ∷ 0 ∷ 0 ∷ 3 ∷ 0 ∷ 206 ∷ 0 ∷ [])) (23 ∷ [])
    ∷ case (judging (24 ∷ 1 ∷ 192 ∷ 0 ∷ 0 ∷ [])) (22 ∷ [])
    -- PAD dispatches 00 01 00 0A 01 05; fault 7 dispatches 00 02 00 0A 01 AA
    ∷ case (sending (packet PAD ∷ [])) (0 ∷ 1 ∷ 0 ∷ 10 ∷ 1 ∷ 5 ∷ [])
    ∷ case (sending (fault 7 ∷ [])) (0 ∷ 2 ∷ 0 ∷ 10 ∷ 1 ∷ 170 ∷ [])
    -- timeout 1: one tick ends it; timeout 0: 300 ticks don't
    ∷ case (answering (packet (arm 184 1) ∷ tick ∷ [])) (15 ∷ [])
    ∷ case (answering (packet (arm 184 1) ∷ tick ∷ packet G ∷ [])) (30 ∷ [])
    ∷ case (answering (packet (arm 185 0) ∷ replicate 300 tick)) (14 ∷ [])
    ∷ case (answering (packet (arm 185 0) ∷ replicate 300 tick ++ packet G ∷ [])) (10 ∷ [])
    -- C with own base 65,528 loads, with 65,529 gives 7
    ∷ case (loading (based 248 255)) (0 ∷ 0 ∷ [])
    ∷ case (loading (based 249 255)) (7 ∷ 0 ∷ [])
    ∷ []
