-- When what is read together is one time map.
use Rattle.occ_tree.specs.OfLists.{IsTreeOf}
use Rattle.supports.specs.declared.time_map.TimeMap.{TimeMap}

-- network and occurrences are those that the standing premises make
abbrev pub IsTimeMap : TimeMap → Type 0
IsTimeMap m = IsTreeOf m.standing.now.present m.net.now.present m.tree.now
