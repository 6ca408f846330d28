-- What the definitions say of small applications. The bytes are those of another program.
use Rattle.std.specs.Prelude.{◌≡◌, [], ◌∷◌, codes, map, refl}
use Rattle.std.specs.Fmt.{digits}
use Rattle.desk_folders.specs.declared.folders.GenFile.{GenFile}
use Rattle.desk_gen.specs.Application.{class_at, generated, neighbour}

-- class 1 of two names class 0
class_1_of_2 : (class_at 2 1).content ≡ 202 ∷ 254 ∷ 186 ∷ 190 ∷ 0 ∷ 0 ∷ 0 ∷ 52 ∷ 0 ∷ 14 ∷ 1 ∷ 0 ∷ 15 ∷ 106 ∷ 97 ∷ 118 ∷ 97 ∷ 120 ∷ 47 ∷ 103 ∷ 101 ∷ 110 ∷ 47 ∷ 112 ∷ 49 ∷ 47 ∷ 67 ∷ 49 ∷ 7 ∷ 0 ∷ 1 ∷ 1 ∷ 0 ∷ 16 ∷ 106 ∷ 97 ∷ 118 ∷ 97 ∷ 47 ∷ 108 ∷ 97 ∷ 110 ∷ 103 ∷ 47 ∷ 79 ∷ 98 ∷ 106 ∷ 101 ∷ 99 ∷ 116 ∷ 7 ∷ 0 ∷ 3 ∷ 1 ∷ 0 ∷ 15 ∷ 106 ∷ 97 ∷ 118 ∷ 97 ∷ 120 ∷ 47 ∷ 103 ∷ 101 ∷ 110 ∷ 47 ∷ 112 ∷ 48 ∷ 47 ∷ 67 ∷ 48 ∷ 7 ∷ 0 ∷ 5 ∷ 1 ∷ 0 ∷ 15 ∷ 106 ∷ 97 ∷ 118 ∷ 97 ∷ 120 ∷ 46 ∷ 103 ∷ 101 ∷ 110 ∷ 46 ∷ 112 ∷ 48 ∷ 46 ∷ 67 ∷ 48 ∷ 8 ∷ 0 ∷ 7 ∷ 1 ∷ 0 ∷ 17 ∷ 76 ∷ 106 ∷ 97 ∷ 118 ∷ 97 ∷ 120 ∷ 47 ∷ 103 ∷ 101 ∷ 110 ∷ 47 ∷ 112 ∷ 48 ∷ 47 ∷ 67 ∷ 48 ∷ 59 ∷ 1 ∷ 0 ∷ 1 ∷ 102 ∷ 12 ∷ 0 ∷ 10 ∷ 0 ∷ 9 ∷ 9 ∷ 0 ∷ 6 ∷ 0 ∷ 11 ∷ 8 ∷ 0 ∷ 1 ∷ 0 ∷ 33 ∷ 0 ∷ 2 ∷ 0 ∷ 4 ∷ 0 ∷ 0 ∷ 0 ∷ 1 ∷ 0 ∷ 0 ∷ 0 ∷ 10 ∷ 0 ∷ 9 ∷ 0 ∷ 0 ∷ 0 ∷ 0 ∷ 0 ∷ 0 ∷ []
unfolding digits
class_1_of_2 = refl

-- class 17 of twenty names class 2
class_17_of_20 : (class_at 20 17).content ≡ 202 ∷ 254 ∷ 186 ∷ 190 ∷ 0 ∷ 0 ∷ 0 ∷ 52 ∷ 0 ∷ 14 ∷ 1 ∷ 0 ∷ 16 ∷ 106 ∷ 97 ∷ 118 ∷ 97 ∷ 120 ∷ 47 ∷ 103 ∷ 101 ∷ 110 ∷ 47 ∷ 112 ∷ 55 ∷ 47 ∷ 67 ∷ 49 ∷ 55 ∷ 7 ∷ 0 ∷ 1 ∷ 1 ∷ 0 ∷ 16 ∷ 106 ∷ 97 ∷ 118 ∷ 97 ∷ 47 ∷ 108 ∷ 97 ∷ 110 ∷ 103 ∷ 47 ∷ 79 ∷ 98 ∷ 106 ∷ 101 ∷ 99 ∷ 116 ∷ 7 ∷ 0 ∷ 3 ∷ 1 ∷ 0 ∷ 15 ∷ 106 ∷ 97 ∷ 118 ∷ 97 ∷ 120 ∷ 47 ∷ 103 ∷ 101 ∷ 110 ∷ 47 ∷ 112 ∷ 50 ∷ 47 ∷ 67 ∷ 50 ∷ 7 ∷ 0 ∷ 5 ∷ 1 ∷ 0 ∷ 15 ∷ 106 ∷ 97 ∷ 118 ∷ 97 ∷ 120 ∷ 46 ∷ 103 ∷ 101 ∷ 110 ∷ 46 ∷ 112 ∷ 50 ∷ 46 ∷ 67 ∷ 50 ∷ 8 ∷ 0 ∷ 7 ∷ 1 ∷ 0 ∷ 17 ∷ 76 ∷ 106 ∷ 97 ∷ 118 ∷ 97 ∷ 120 ∷ 47 ∷ 103 ∷ 101 ∷ 110 ∷ 47 ∷ 112 ∷ 50 ∷ 47 ∷ 67 ∷ 50 ∷ 59 ∷ 1 ∷ 0 ∷ 1 ∷ 102 ∷ 12 ∷ 0 ∷ 10 ∷ 0 ∷ 9 ∷ 9 ∷ 0 ∷ 6 ∷ 0 ∷ 11 ∷ 8 ∷ 0 ∷ 1 ∷ 0 ∷ 33 ∷ 0 ∷ 2 ∷ 0 ∷ 4 ∷ 0 ∷ 0 ∷ 0 ∷ 1 ∷ 0 ∷ 0 ∷ 0 ∷ 10 ∷ 0 ∷ 9 ∷ 0 ∷ 0 ∷ 0 ∷ 0 ∷ 0 ∷ 0 ∷ []
unfolding digits
class_17_of_20 = refl

neighbours : map (neighbour 10) (0 ∷ 1 ∷ 2 ∷ 9 ∷ []) ≡ 3 ∷ 0 ∷ 7 ∷ 6 ∷ []
neighbours = refl

paths_of_3 : map (λ (file : GenFile). file.path) (generated 3)
    ≡ codes "javax/gen/p0/C0.class" ∷ codes "javax/gen/p1/C1.class" ∷ codes "javax/gen/p2/C2.class" ∷ codes "META-INF/services/javax.gen.p0.C0" ∷ []
unfolding digits
paths_of_3 = refl

path_of_17 : (class_at 20 17).path ≡ codes "javax/gen/p7/C17.class"
unfolding digits
path_of_17 = refl
