-- Document 01's listing, repeats that change case, and a refusal, computed.
-- Assumes nothing.
use Rattle.std.specs.Prelude.{◌≡◌, refl, [], ◌∷◌, ◌++◌}
use Rattle.listing.specs.Listing.{listing_of}

-- `>m1`, LF, `aabaab`, LF: `m1 0 2 p1`, `m1 0 6 p3`, `m1 3 5 p1`, with tabs.
listed :
    listing_of (62 ∷ 109 ∷ 49 ∷ 10 ∷ 97 ∷ 97 ∷ 98 ∷ 97 ∷ 97 ∷ 98 ∷ 10 ∷ [])
    ≡ (109 ∷ 49 ∷ 9 ∷ 48 ∷ 9 ∷ 50 ∷ 9 ∷ 112 ∷ 49 ∷ 10 ∷ [])
    ++ (109 ∷ 49 ∷ 9 ∷ 48 ∷ 9 ∷ 54 ∷ 9 ∷ 112 ∷ 51 ∷ 10 ∷ [])
    ++ (109 ∷ 49 ∷ 9 ∷ 51 ∷ 9 ∷ 53 ∷ 9 ∷ 112 ∷ 49 ∷ 10 ∷ [])
listed = refl

-- `>m1`, LF, `AAbaab`, LF: the same listing (document 02, E2).
listed_in_two_cases :
    listing_of (62 ∷ 109 ∷ 49 ∷ 10 ∷ 65 ∷ 65 ∷ 98 ∷ 97 ∷ 97 ∷ 98 ∷ 10 ∷ [])
    ≡ listing_of (62 ∷ 109 ∷ 49 ∷ 10 ∷ 97 ∷ 97 ∷ 98 ∷ 97 ∷ 97 ∷ 98 ∷ 10 ∷ [])
listed_in_two_cases = refl

-- `>m1`, LF, `ACGac`, LF, `gACg`: a repeat that changes case in the middle is found whole, `m1 0 9 p3`, and the name is printed as it stands.
found_whole :
    listing_of (62 ∷ 109 ∷ 49 ∷ 10 ∷ 65 ∷ 67 ∷ 71 ∷ 97 ∷ 99 ∷ 10 ∷ 103 ∷ 65 ∷ 67 ∷ 103 ∷ [])
    ≡ 109 ∷ 49 ∷ 9 ∷ 48 ∷ 9 ∷ 57 ∷ 9 ∷ 112 ∷ 51 ∷ 10 ∷ []
found_whole = refl

-- `>m1` alone: `refused 13 at 3`.
refused : listing_of (62 ∷ 109 ∷ 49 ∷ []) ≡ 114 ∷ 101 ∷ 102 ∷ 117 ∷ 115 ∷ 101 ∷ 100 ∷ 32 ∷ 49 ∷ 51 ∷ 32 ∷ 97 ∷ 116 ∷ 32 ∷ 51 ∷ 10 ∷ []
refused = refl
