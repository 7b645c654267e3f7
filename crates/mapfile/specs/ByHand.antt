-- Map texts worked by hand: the map of the scope paper with windows that last all day, and the refusals.
use Rattle.std.specs.Prelude.{ℕ, ◌≡◌, List, [], ◌∷◌, ◌++◌, map, replicate}
use Rattle.text.specs.ByHand.{zero_digits}
use Rattle.text.specs.Decimal.{row}
use Rattle.paths.specs.Map.{SpanLists, span_lists, Windows, windows}
use Rattle.mapfile.specs.Read.{Reading, refused_reading, read_map}

-- `3,0,0` with LF: a map of three places
unfoldable pub paper_head : List ℕ
paper_head = row (3 ∷ 0 ∷ 0 ∷ [])

-- then `0,1,7,0,1440` `0,2,20,0,1440` `1,2,5,0,1440`, each with LF
unfoldable pub paper_text : List ℕ
paper_text =
    paper_head ++ row (0 ∷ 1 ∷ 7 ∷ 0 ∷ 1440 ∷ []) ++ row (0 ∷ 2 ∷ 20 ∷ 0 ∷ 1440 ∷ [])
    ++ row (1 ∷ 2 ∷ 5 ∷ 0 ∷ 1440 ∷ [])

-- the same map with zeros before its numbers: `03,00,0` `0,1,0000000007,00,1440` `00,2,020,0,01440` `1,02,5,0,1440`
unfoldable pub padded_text : List ℕ
padded_text =
    (48 ∷ 51 ∷ 44 ∷ 48 ∷ 48 ∷ 44 ∷ 48 ∷ 10 ∷ [])
    ++ (48 ∷ 44 ∷ 49 ∷ 44 ∷ zero_digits 9 ++ 55 ∷ 44 ∷ 48 ∷ 48 ∷ 44 ∷ 49 ∷ 52 ∷ 52 ∷ 48 ∷ 10 ∷ [])
    ++ (48 ∷ 48 ∷ 44 ∷ 50 ∷ 44 ∷ 48 ∷ 50 ∷ 48 ∷ 44 ∷ 48 ∷ 44 ∷ 48 ∷ 49 ∷ 52 ∷ 52 ∷ 48 ∷ 10 ∷ [])
    ++ (49 ∷ 44 ∷ 48 ∷ 50 ∷ 44 ∷ 53 ∷ 44 ∷ 48 ∷ 44 ∷ 49 ∷ 52 ∷ 52 ∷ 48 ∷ 10 ∷ [])

-- a minute that no day has, and a span of which no number is in range
unfoldable pub large_text : List ℕ
large_text = row (3 ∷ 0 ∷ 4294967295 ∷ []) ++ row (7 ∷ 8 ∷ 0 ∷ 1441 ∷ 0 ∷ [])

-- lists of n words, all nines
unfoldable pub nines : ℕ → SpanLists
nines n = span_lists (replicate n 9) (replicate n 9) (replicate n 9)

unfoldable pub nine_windows : ℕ → Windows
nine_windows n = windows (replicate n 9) (replicate n 9)

-- read into such lists
unfoldable pub read_onto : ℕ → List ℕ → Reading
read_onto n text = read_map text (nines n) (nine_windows n)

-- nothing; an empty line; the head `3,0` and the span `0,1,7` of maps without windows; spans of four and of six
-- numbers; a head of four; `3,0,0` with CR; `3,0,00000000000` with eleven zeros
unfoldable pub malformed : List (List ℕ)
malformed =
    [] ∷ (paper_head ++ 10 ∷ []) ∷ row (3 ∷ 0 ∷ []) ∷ (paper_head ++ row (0 ∷ 1 ∷ 7 ∷ [])) ∷
    (paper_head ++ row (0 ∷ 1 ∷ 7 ∷ 0 ∷ [])) ∷ (paper_head ++ row (0 ∷ 1 ∷ 7 ∷ 0 ∷ 1440 ∷ 0 ∷ [])) ∷
    row (3 ∷ 0 ∷ 0 ∷ 0 ∷ []) ∷ (51 ∷ 44 ∷ 48 ∷ 44 ∷ 48 ∷ 13 ∷ 10 ∷ []) ∷ (51 ∷ 44 ∷ 48 ∷ 44 ∷ zero_digits 11) ∷ []

pub record WorkedTexts : Type 0 where
  -- a fourth word is left as it was
  pub paper :
      read_onto 4 paper_text
      ≡ record {
        answer = record { code = 0; places = 3; start = 0; minute = 0; spans = 3 };
        left = span_lists (0 ∷ 0 ∷ 1 ∷ 9 ∷ []) (1 ∷ 2 ∷ 2 ∷ 9 ∷ []) (7 ∷ 20 ∷ 5 ∷ 9 ∷ []);
        left_windows = windows (0 ∷ 0 ∷ 0 ∷ 9 ∷ []) (1440 ∷ 1440 ∷ 1440 ∷ 9 ∷ []);
      }
  pub padded : read_onto 4 padded_text ≡ read_onto 4 paper_text
  -- no range is tested
  pub large :
      read_onto 1 large_text
      ≡ record {
        answer = record { code = 0; places = 3; start = 0; minute = 4294967295; spans = 1 };
        left = span_lists (7 ∷ []) (8 ∷ []) (0 ∷ []);
        left_windows = windows (1441 ∷ []) (0 ∷ []);
      }
  -- no room for the third span
  pub short : read_onto 2 paper_text ≡ refused_reading 16 (nines 2) (nine_windows 2)
  -- one list of another length
  pub uneven :
      read_map paper_text (span_lists (9 ∷ 9 ∷ 9 ∷ []) (9 ∷ []) (9 ∷ 9 ∷ 9 ∷ [])) (nine_windows 3)
      ≡ refused_reading 16 (span_lists (9 ∷ 9 ∷ 9 ∷ []) (9 ∷ []) (9 ∷ 9 ∷ 9 ∷ [])) (nine_windows 3)
  pub uneven_windows :
      read_map paper_text (nines 3) (windows (9 ∷ 9 ∷ 9 ∷ []) (9 ∷ 9 ∷ 9 ∷ 9 ∷ []))
      ≡ refused_reading 16 (nines 3) (windows (9 ∷ 9 ∷ 9 ∷ []) (9 ∷ 9 ∷ 9 ∷ 9 ∷ []))
  -- 21 comes before 16
  pub refusals : map (read_onto 0) malformed ≡ replicate 9 (refused_reading 21 (nines 0) (nine_windows 0))
