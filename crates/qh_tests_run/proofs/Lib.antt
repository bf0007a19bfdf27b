mod RisingLists
