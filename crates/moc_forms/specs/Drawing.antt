-- A picture of a set: an SVG text that shows the HEALPix projection (Górski et al. 2005), 1024 half steps of order 7
-- wide and 512 high, with y from the north pole. Cells are drawn with x eastward, in a group that is mirrored: as on
-- sky charts, east is to the left.
use Rattle.std.specs.Prelude.{ℕ, ◌+◌, ◌-◌, ◌*◌, ◌/◌, ◌^◌, ◌==◌, Bool, not, ◌&&◌, nat_le, nat_lt, if◌then◌else◌}
use Rattle.std.specs.Prelude.{List, [], ◌∷◌, ◌++◌, codes, decimal, map, slice_index_or, Option, option_map}
use Rattle.std.specs.List.{filter, flat_map, range_with_len}
use Rattle.std.specs.Option.{option_map_or}
use Rattle.std.specs.FinSet as set
use Rattle.moc_sphere.specs.CellNumber.{CellNumber, cell_number, cell_count}
use Rattle.moc_sphere.specs.Rings.{row_of, column_of}
use Rattle.moc_ranges.specs.Cells.{cells_of, span}
use Rattle.moc_lists.specs.RangeList.{NumberSet}
use Rattle.moc_ranges.specs.Operations.{meets}
use Rattle.moc_forms.specs.declared.legend.PictureNames.{PictureNames}
use Rattle.moc_forms.specs.declared.marks.Layers.{Layers}

-- a cell that is drawn, and its tone: 1 to 4 are the shades of blue, from the lightest, 5 to 8 those of orange, and 9
-- to 12 those of black
abbrev pub TonedCell : Type 0
TonedCell = CellNumber × ℕ

-- the number before the first shade of blue
abbrev pub blue : ℕ
blue = 0

-- the number before the first shade of orange
abbrev pub orange : ℕ
orange = 4

-- the number before the first shade of black
abbrev pub black : ℕ
black = 8

-- the colours of the tones: mixtures of white and three colours of Okabe and Ito
unfoldable pub tone_colours : List (List ℕ)
tone_colours =
    codes "#8cc0dc" ∷ codes "#5ea6cf" ∷ codes "#2e8bc0" ∷ codes "#0072b2"
    ∷ codes "#f4d48c" ∷ codes "#efc35e" ∷ codes "#ebb02e" ∷ codes "#e69f00"
    ∷ codes "#8c8c8c" ∷ codes "#5e5e5e" ∷ codes "#2e2e2e" ∷ codes "#000000" ∷ []

-- the colour of a tone
abbrev pub tone_colour : ℕ → List ℕ
tone_colour tone = slice_index_or tone_colours (tone - 1) []

-- one set is drawn in blue
abbrev pub layers_of_one : NumberSet → Layers
layers_of_one a = record { all = a; first = a; second = set.empty; both = set.empty }

-- of two sets, the pixels of only the first are drawn in blue, of only the second in orange, and of both in black
abbrev pub layers_of_two : NumberSet → NumberSet → Layers
layers_of_two a b = record {
  all = set.union a b;
  first = set.difference a b;
  second = set.difference b a;
  both = set.intersection a b;
}

-- the marks of the cells whose order is at most 7: they are drawn whole, in the darkest shade of a colour
unfoldable pub whole_marks : ℕ → List CellNumber → List TonedCell
whole_marks colour cells = flat_map (λ c. if nat_le c.order 7 then (c, colour + 4) ∷ [] else []) cells

-- whether some pixels of the cell i of order 7 are drawn, but not all in one colour
unfoldable pub is_mixed : Layers → ℕ → Bool
is_mixed l i =
    meets l.all (span 7 i) && not (set.is_subset (span 7 i) l.first) && not (set.is_subset (span 7 i) l.second)
    && not (set.is_subset (span 7 i) l.both)

-- the number of pixels of a set in the cell i of order 7, which has 4^22 pixels
abbrev pub count_in : NumberSet → ℕ → ℕ
count_in a i = set.len (set.intersection a (span 7 i))

-- the colour of most pixels; of colours with equally many pixels, the last of blue, orange and black
unfoldable pub main_colour : ℕ → ℕ → ℕ → ℕ
main_colour first second both =
    if nat_le first both && nat_le second both then black else if nat_le first second then orange else blue

-- the tone of a mixed cell: a shade of the colour of most of its pixels, by the quarters of the cell that are drawn
unfoldable pub tone_of : Layers → ℕ → ℕ
tone_of l i =
    main_colour (count_in l.first i) (count_in l.second i) (count_in l.both i) + 1 + (count_in l.all i - 1) / (4 ^ 21)

-- the marks of the mixed cells below a number
unfoldable pub mixed_below : Layers → ℕ → List TonedCell
mixed_below l n = map (λ i. (cell_number 7 i, tone_of l i)) (filter (is_mixed l) (range_with_len 0 n))

-- the marks of a picture: the cells of order 7 or less of one colour, and the mixed cells of order 7
unfoldable pub marks_of : Layers → List TonedCell
marks_of l =
    whole_marks blue (cells_of l.first) ++ whole_marks orange (cells_of l.second) ++ whole_marks black (cells_of l.both)
    ++ mixed_below l (cell_count 7)

-- the diamond h to each side of a centre, from its northern corner by the eastern, southern and western
unfoldable pub diamond : ℕ → ℕ → ℕ → List ℕ
diamond h x y =
    (codes "M" ++ decimal x) ++ (codes " " ++ decimal (y - h)) ++ (codes "l" ++ decimal h) ++ (codes " " ++ decimal h)
    ++ (codes "-" ++ decimal h) ++ (codes " " ++ decimal h) ++ (codes "-" ++ decimal h) ++ (codes "-" ++ decimal h)
    ++ codes "z"

-- the diamond of a cell with half steps of h; at column 0, which the left edge cuts, also at the right edge
unfoldable pub diamonds_at : ℕ → ℕ → ℕ → List ℕ
diamonds_at h row column =
    diamond h (column * h) (row * h) ++ (if column == 0 then diamond h 1024 (row * h) else [])

-- the diamonds of a cell of order 7 or less
unfoldable pub cell_diamonds : CellNumber → List ℕ
cell_diamonds c = diamonds_at (2 ^ (7 - c.order)) (row_of c.order c.index) (column_of c.order c.index)

-- the diamonds of marks
unfoldable pub mark_diamonds : List TonedCell → List ℕ
mark_diamonds marks = flat_map (λ m. cell_diamonds m.0) marks

-- the start of a path of cells in a colour
unfoldable pub path_head : List ℕ → List ℕ
path_head colour =
    codes "<path fill=\"" ++ colour ++ codes "\" stroke=\"" ++ colour
    ++ codes "\" vector-effect=\"non-scaling-stroke\" d=\""

-- the path of marks in a colour
unfoldable pub marks_path : List TonedCell → List ℕ → List ℕ
marks_path marks colour = path_head colour ++ mark_diamonds marks ++ codes "\"/>\n"

-- the sky: the twelve base pixels in grey, outlined; mirroring does not change them
unfoldable pub outlines : List ℕ
outlines =
    codes "<path fill=\"#eee\" stroke=\"#bbb\" clip-path=\"url(#plane)\" d=\""
    ++ flat_map (λ f. cell_diamonds (cell_number 0 f)) (range_with_len 0 12) ++ codes "\"/>\n"

-- a number at a position
unfoldable pub label : ℕ → ℕ → ℕ → List ℕ
label number x y =
    (codes "<text x=\"" ++ decimal x) ++ (codes "\" y=\"" ++ decimal y) ++ (codes "\">" ++ decimal number)
    ++ codes "</text>\n"

-- the number of a base pixel whose centre is in a row and a column, counted from the right: at the centre, 7 lower for
-- the height of the digits; at column 0 the centre is on both edges, and the number is 16 from each
unfoldable pub labels_at : ℕ → ℕ → ℕ → List ℕ
labels_at f row column =
    if column == 0
    then label f 16 (row * 128 + 7) ++ label f 1008 (row * 128 + 7)
    else label f (1024 - column * 128) (row * 128 + 7)

-- the start of a picture of a height: a title, the bounds of the projection, and a white background with a margin of 40
-- and space for a legend
abbrev pub picture_head : ℕ → List ℕ
picture_head height =
    codes "<svg xmlns=\"http://www.w3.org/2000/svg\" viewBox=\"-40 -40 1104 " ++ decimal height
    ++ codes "\">\n<title>Sky coverage</title>\n<clipPath id=\"plane\"><path d=\"M0 0h1024v512H0z\"/></clipPath>\n"
    ++ codes "<rect x=\"-40\" y=\"-40\" width=\"1104\" height=\"" ++ decimal height ++ codes "\" fill=\"#fff\"/>\n"

-- the start of the group of the cells: mirrored, clipped to the projection, with sharp edges
abbrev pub group_head : List ℕ
group_head =
    codes "<g transform=\"translate(1024 0) scale(-1 1)\" clip-path=\"url(#plane)\" shape-rendering=\"crispEdges\">\n"

-- the path of the marks of a tone
unfoldable pub tone_path : List TonedCell → ℕ → List ℕ
tone_path marks tone = marks_path (filter (λ m. m.1 == tone) marks) (tone_colour tone)

-- the marks in the four shades of a colour, with a thin rim, so that a single cell is visible
unfoldable pub shades : List TonedCell → ℕ → List ℕ
shades marks colour =
    tone_path marks (colour + 1) ++ tone_path marks (colour + 2) ++ tone_path marks (colour + 3)
    ++ tone_path marks (colour + 4)

-- the numbers of the twelve base pixels, pale, below the cells
unfoldable pub labels : List ℕ
labels =
    codes "<g font-family=\"sans-serif\" font-size=\"20\" text-anchor=\"middle\" fill=\"#bbb\">\n"
    ++ flat_map (λ f. labels_at f (row_of 0 f) (column_of 0 f)) (range_with_len 0 12)
    ++ codes "</g>\n"

-- a byte of a name in XML: `&`, `<`, `>` and `"` are escaped, and a byte that is not printable ASCII is `?`
abbrev pub xml_byte : ℕ → List ℕ
xml_byte b =
    if b == 38 then codes "&amp;"
    else if b == 60 then codes "&lt;"
    else if b == 62 then codes "&gt;"
    else if b == 34 then codes "&quot;"
    else if nat_le 32 b && nat_lt b 127 then b ∷ [] else 63 ∷ []

-- a name in XML
unfoldable pub xml_text : List ℕ → List ℕ
xml_text name = flat_map xml_byte name

-- a name in XML, or a default text
abbrev pub xml_name : Option (List ℕ) → List ℕ → List ℕ
xml_name name default = option_map_or xml_text name default

-- a square of a tone at a position
unfoldable pub square : ℕ → ℕ → ℕ → List ℕ
square x y tone =
    codes "<path fill=\"" ++ tone_colour tone ++ codes "\" d=\"M" ++ decimal x ++ codes " " ++ decimal y
    ++ codes "h24v16h-24z\"/>\n"

-- a row of a legend: the four shades of a colour, and its meaning
unfoldable pub legend_row : ℕ → ℕ → List ℕ → List ℕ
legend_row y colour meaning =
    square 60 y (colour + 1) ++ square 100 y (colour + 2) ++ square 140 y (colour + 3) ++ square 180 y (colour + 4)
    ++ codes "<text x=\"216\" y=\"" ++ decimal (y + 15) ++ codes "\">" ++ meaning ++ codes "</text>\n"

-- the start of a legend: the directions east and west, and the meaning of the shades
unfoldable pub legend_head : List ℕ → List ℕ
legend_head meaning =
    codes "<g font-family=\"sans-serif\" font-size=\"20\" fill=\"#444\">\n<text x=\"-34\" y=\"263\">E</text>\n"
    ++ codes "<text x=\"1036\" y=\"263\">W</text>\n<text x=\"0\" y=\"566\">up to</text>\n"
    ++ codes "<text x=\"60\" y=\"566\">1/4</text>\n<text x=\"100\" y=\"566\">1/2</text>\n"
    ++ codes "<text x=\"140\" y=\"566\">3/4</text>\n<text x=\"180\" y=\"566\">1</text>\n<text x=\"216\" y=\"566\">"
    ++ meaning ++ codes "</text>\n"

-- the legend of one set, with a name
unfoldable pub legend : Option (List ℕ) → List ℕ
legend name =
    legend_head (codes "of a cell of order 7") ++ legend_row 580 blue (xml_name name (codes "covered"))
    ++ codes "</g>\n"

-- the picture of a set of pixels, with a name
abbrev pub picture_of : NumberSet → Option (List ℕ) → List ℕ
picture_of a name =
    picture_head 656 ++ outlines ++ labels ++ group_head ++ shades (marks_of (layers_of_one a)) blue ++ codes "</g>\n"
    ++ legend name ++ codes "</svg>\n"

-- the cells of two sets in three colours
unfoldable pub three_colours : List TonedCell → List ℕ
three_colours marks = shades marks blue ++ shades marks orange ++ shades marks black

-- the legend of two sets, with names
unfoldable pub legend_of_two : PictureNames → List ℕ
legend_of_two names =
    legend_head (codes "of a cell of order 7; its colour is that of most of its covered pixels")
    ++ legend_row 580 blue (xml_name (option_map (λ n. n.now) names.first) (codes "first only"))
    ++ legend_row 608 orange (xml_name (option_map (λ n. n.now) names.second) (codes "second only"))
    ++ legend_row 636 black (codes "both")
    ++ codes "</g>\n"

-- the picture of two sets of pixels, with names
abbrev pub picture_of_two : NumberSet → NumberSet → PictureNames → List ℕ
picture_of_two a b names =
    picture_head 712 ++ outlines ++ labels ++ group_head ++ three_colours (marks_of (layers_of_two a b))
    ++ codes "</g>\n" ++ legend_of_two names ++ codes "</svg>\n"
